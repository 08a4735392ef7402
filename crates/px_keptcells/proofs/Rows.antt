-- A list that is cut into rows, of which some go.
use Rattle.std.proofs.Common.{◌≡◌, ℕ, ◌∙◌, ◌+◌, ◌-◌, ◌<◌, ◌≤◌, Bool, true, false, cond, inl, inr, List, [], ◌∷◌, ◌++◌, append_assoc, drop, get_or, length, length-drop, refl, ap, set, sum, sym, subst, take, take-append-drop, arith}
use Rattle.std.proofs.Math.ListN.{drop_of_length-le}
use Rattle.std.proofs.lemmas.Bool.{cases_eq, cases_lt}
use Rattle.std.proofs.lemmas.List.{append-nil, drop-append-le, drop-drop, drop_more, drop-take, drop-set-lt, get_or_default, get_or_past, get_or-drop, length-set, take-append-le, take_all, take_more, take_more_set, take-set, take-set-le, take-take}
use Rattle.std.proofs.lemmas.List.Sums.{sum_by-cons}
use Rattle.px_cells.specs.CellData.{CellData}
use Rattle.px_cells.specs.declared.kind.CellKind.TheVariants.{Put}
use Rattle.px_keptcells.specs.Kept.{but, laid}
use Rattle.px_keptcells.specs.inner.Rows.{cut}

sum_of : (n : ℕ) (counts : List ℕ) → sum (n ∷ counts) ≡ n + sum counts
sum_of n counts = sum_by-cons (λ (x : ℕ). x) n counts

-- the rows are all cells
pub laid_cut : (counts : List ℕ) (cells : List CellData) → sum counts ≡ length cells → laid (cut counts cells) ≡ cells
laid_cut [] [] e = refl
laid_cut [] (c ∷ cells) e = cc
laid_cut (n ∷ counts) cells e =
    (let s = sum_of n counts in let l = length-drop n cells in
    ap (λ (x : List CellData). take n cells ++ x) (laid_cut counts (drop n cells) (omega arith)) ∙ take-append-drop n cells)

-- one row more
pub cut_push : (counts : List ℕ) (cells part : List CellData) (n : ℕ) → sum counts ≡ length cells → n ≡ length part → cut (counts ++ n ∷ []) (cells ++ part) ≡ cut counts cells ++ part ∷ []
cut_push [] [] part n e l = ap (λ (x : List CellData). x ∷ []) (take_all n part (omega arith))
cut_push [] (c ∷ cells) part n e l = cc
cut_push (m ∷ counts) cells part n e l =
    (let s = sum_of m counts in let d = length-drop m cells in
    let within : m ≤ length cells = omega arith in
    (λ i. take-append-le m cells part within i ∷ cut (counts ++ n ∷ []) (drop-append-le m cells part within i))
    ∙ ap (λ (x : List (List CellData)). take m cells ∷ x) (cut_push counts (drop m cells) part n (omega arith) l))

-- ---- rows that stay and rows that go

-- what stays of the rows from a place on
abbrev pub left : ℕ → List Bool → List ℕ → List CellData → List CellData
left r vs counts cells = laid (but (drop r vs) (cut (drop r counts) cells))

abbrev next : ℕ → List Bool → List ℕ → List CellData → Bool → List CellData
next r vs counts cells v = laid (cond v (but (drop (r + 1) vs) (cut (drop (r + 1) counts) (drop (get_or counts r 0) cells))) (take (get_or counts r 0) cells ∷ but (drop (r + 1) vs) (cut (drop (r + 1) counts) (drop (get_or counts r 0) cells))))

step : (vs : List Bool) (counts : List ℕ) (cells : List CellData) (r : ℕ) (v : Bool) → r < length counts → get_or vs r false ≡ v → left r vs counts cells ≡ next r vs counts cells v
step vs counts cells r v m q = elim (cases_lt r (length vs)) [
  | inl l ↦ (λ i. laid (but (drop_more vs r v l i) (cut (drop_more counts r 0 m i) cells))) ∙ ap (next r vs counts cells) (get_or_default vs r v false l ∙ q)
  | inr l ↦ (let here : drop r vs ≡ [] = drop_of_length-le vs l in
      let after : drop (r + 1) vs ≡ [] = drop_of_length-le vs (omega arith) in
      let off : v ≡ false = sym q ∙ get_or_past vs r false l in
      let rest = cut (drop (r + 1) counts) (drop (get_or counts r 0) cells) in
      (λ i. laid (but (here i) (cut (drop_more counts r 0 m i) cells)))
      ∙ (λ i. laid (cond (sym off i) (but (sym after i) rest) (take (get_or counts r 0) cells ∷ but (sym after i) rest))))
]

pub row_goes : (vs : List Bool) (counts : List ℕ) (cells : List CellData) (r at : ℕ) → r < length counts → get_or vs r false ≡ true → left (r + 1) vs counts (drop (at + get_or counts r 0) cells) ≡ left r vs counts (drop at cells)
row_goes vs counts cells r at m q = sym (step vs counts (drop at cells) r true m q ∙ ap (λ (x : List CellData). left (r + 1) vs counts x) (drop-drop (get_or counts r 0) at cells))

pub row_stays : (vs : List Bool) (counts : List ℕ) (old new : List CellData) (r next at : ℕ) → r < length counts → get_or vs r false ≡ false → take (next + get_or counts r 0) new ≡ take next old ++ take (get_or counts r 0) (drop at old) → drop (at + get_or counts r 0) new ≡ drop (at + get_or counts r 0) old
    → take (next + get_or counts r 0) new ++ left (r + 1) vs counts (drop (at + get_or counts r 0) new) ≡ take next old ++ left r vs counts (drop at old)
row_stays vs counts old new r next at m q front rest =
    let n = get_or counts r 0 in
    (λ i. front i ++ left (r + 1) vs counts (rest i))
    ∙ (append_assoc (take next old) (take n (drop at old)) (left (r + 1) vs counts (drop (at + n) old))
    ∙ ap (λ (x : List CellData). take next old ++ x) (sym (step vs counts (drop at old) r false m q ∙ ap (λ (x : List CellData). take n (drop at old) ++ left (r + 1) vs counts x) (drop-drop n at old))))

nothing : (vs : List Bool) → laid (but vs []) ≡ []
nothing [] = refl
nothing (v ∷ vs) = refl

pub none_left : (vs : List Bool) (counts : List ℕ) (cells : List CellData) (r next at : ℕ) → length counts ≤ r → take next cells ++ left r vs counts (drop at cells) ≡ take next cells
none_left vs counts cells r next at l = ap (λ (x : List CellData). take next cells ++ x) (ap (λ (x : List ℕ). laid (but (drop r vs) (cut x (drop at cells)))) (drop_of_length-le counts l) ∙ nothing (drop r vs)) ∙ append-nil (take next cells)

pub sum_left : (counts : List ℕ) (r : ℕ) → r < length counts → sum (drop r counts) ≡ get_or counts r 0 + sum (drop (r + 1) counts)
sum_left counts r l = ap sum (drop_more counts r 0 l) ∙ sum_of (get_or counts r 0) (drop (r + 1) counts)

-- ---- one row moves

abbrev any_cell : CellData
any_cell = record { key = []; qualifier = 0; stamp = 0; kind = Put; value = [] }

pub moved_none : (cells : List CellData) (next at count : ℕ) → next ≡ at → at + count ≤ length cells → take (next + count) cells ≡ take next cells ++ take count (drop at cells)
moved_none cells next at count e l =
    subst (λ (m : ℕ). take (next + count) cells ≡ take next cells ++ take count (drop m cells)) e
    (sym (take-append-drop next (take (next + count) cells)) ∙ (λ i. both i ++ later i))
  where
    both : take next (take (next + count) cells) ≡ take next cells
    both = take-take next (next + count) cells (omega arith)

    later : drop next (take (next + count) cells) ≡ take count (drop next cells)
    later = drop-take next count cells

module _ (old xs ys : List CellData) (next at i : ℕ) (behind : next ≤ at) (inside : at + i < length xs) (front : take (next + i) xs ≡ take next old ++ take i (drop at old)) (rest : drop (at + i) xs ≡ drop (at + i) old)
    (swapped : (d : CellData) → ys ≡ set (set xs (next + i) (get_or xs (at + i) d)) (at + i) (get_or xs (next + i) d)) where
  abbrev n : ℕ
  n = next + i

  abbrev k : ℕ
  k = at + i

  abbrev d : CellData
  d = any_cell

  same_len : length xs - k ≡ length old - k
  same_len = (let e = ap (λ (l : List CellData). length l) rest in let p = length-drop k xs in let q = length-drop k old in omega arith)

  moved : get_or xs k d ≡ get_or (drop at old) i d
  moved = sym (at_place xs) ∙ (ap (λ (l : List CellData). get_or l 0 d) rest ∙ (at_place old ∙ sym (get_or-drop at old i d)))
    where
      at_place : (l : List CellData) → get_or (drop k l) 0 d ≡ get_or l k d
      at_place l = get_or-drop k l 0 d ∙ ap (λ (m : ℕ). get_or l m d) z
        where
          z : k + 0 ≡ k
          z = omega arith

  taken : take (n + 1) ys ≡ take n xs ++ get_or xs k d ∷ []
  taken = ap (take (n + 1)) (swapped d) ∙ elim (cases_eq n k) [
    | inl e ↦ subst (λ (j : ℕ). take (n + 1) (set (set xs n (get_or xs j d)) j (get_or xs n d)) ≡ take n xs ++ get_or xs j d ∷ []) e
        (take_more_set (set xs n (get_or xs n d)) n (get_or xs n d) (let s = length-set xs n (get_or xs n d) in omega arith) ∙ ap (λ (l : List CellData). l ++ get_or xs n d ∷ []) (take-set xs n (get_or xs n d)))
    | inr e ↦ take-set-le (n + 1) (set xs n (get_or xs k d)) k (get_or xs n d) (omega arith) ∙ take_more_set xs n (get_or xs k d) (omega arith)
  ]

  pub moved_front : take (next + (i + 1)) ys ≡ take next old ++ take (i + 1) (drop at old)
  moved_front =
      let l : i < length (drop at old) = (let e = same_len in let q = length-drop at old in omega arith) in
      ap (λ (m : ℕ). take m ys) same ∙ (taken ∙ ((λ j. front j ++ moved j ∷ []) ∙ (append_assoc (take next old) (take i (drop at old)) (get_or (drop at old) i d ∷ []) ∙ ap (λ (z : List CellData). take next old ++ z) (sym (take_more (drop at old) i d l)))))
    where
      same : next + (i + 1) ≡ n + 1
      same = omega arith

  pub moved_rest : drop (at + (i + 1)) ys ≡ drop (at + (i + 1)) old
  moved_rest =
      ap (drop (at + (i + 1))) (swapped d) ∙ (drop-set-lt (at + (i + 1)) (set xs n (get_or xs k d)) k (get_or xs n d) (omega arith) ∙ (drop-set-lt (at + (i + 1)) xs n (get_or xs k d) (omega arith)
      ∙ (one xs ∙ (ap (drop 1) rest ∙ sym (one old)))))
    where
      one : (l : List CellData) → drop (at + (i + 1)) l ≡ drop 1 (drop k l)
      one l = ap (λ (m : ℕ). drop m l) z ∙ sym (drop-drop 1 k l)
        where
          z : at + (i + 1) ≡ k + 1
          z = omega arith
