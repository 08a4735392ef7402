-- How many rows cells are of.
use Rattle.std.proofs.Common.{◌⊎◌, ◌≡◌, ℕ, zero, suc, cond, ◌+◌, ◌-◌, ◌<◌, ◌≤◌, Bool, true, false, Some, None, List, [], ◌∷◌, ◌++◌, length, take, drop, get_or, refl, sym, ap, subst, ◌∙◌, add-one, inl, inr, arith, length-append}
use Rattle.std.specs.Prelude.{min, nat_eq, nat_lt, not, slice_get}
use Rattle.std.proofs.lemmas.Option.{get_or_from_slice_get, slice_get_cases, slice_get_within}
use Rattle.std.specs.Cmp.Lexicographic.{pointwise}
use Rattle.std.proofs.lemmas.Bool.{cases_lt, ltb-true, lt-ltb}
use Rattle.std.proofs.lemmas.List.{get_or_append_left, length-take-le, take-append-drop}
use Rattle.px_cells.specs.CellData.{CellData}
use Rattle.px_sources.specs.Giving.{begins_row, key_at, rows_before}
use Rattle.px_sources.proofs.Given.{begins_by, begins_first, begins_next, row_none, row_step}
use Rattle.px_reads.specs.inner.Fronts.{AreFrontRows}

-- ---- cells before others

key_front : (xs ys : List CellData) (i : ℕ) → i < length xs → key_at (xs ++ ys) i ≡ key_at xs i
key_front xs ys i lt = ap (λ (c : CellData). c.key) (get_or_append_left xs ys _ i lt)

begins_front : (xs ys : List CellData) (i : ℕ) → i < length xs → begins_row (xs ++ ys) i ≡ begins_row xs i
begins_front xs ys zero lt = begins_first (xs ++ ys) 0 refl ∙ sym (begins_first xs 0 refl)
begins_front xs ys (suc i) lt =
    begins_next (xs ++ ys) (suc i) i refl ∙ ap (λ (k : List ℕ). not (pointwise nat_eq k (key_at (xs ++ ys) (suc i)))) (key_front xs ys i (omega arith))
    ∙ ap (λ (k : List ℕ). not (pointwise nat_eq (key_at xs i) k)) (key_front xs ys (suc i) lt) ∙ sym (begins_next xs (suc i) i refl)

pub rows_front : (xs ys : List CellData) (n : ℕ) → n ≤ length xs → rows_before (xs ++ ys) n ≡ rows_before xs n
rows_front xs ys zero le = row_none (xs ++ ys) ∙ sym (row_none xs)
rows_front xs ys (suc n) le =
    ap (rows_before (xs ++ ys)) (sym (add-one n)) ∙ row_step (xs ++ ys) n ∙ ap (λ (m : ℕ). m + cond (begins_row (xs ++ ys) n) 1 0) (rows_front xs ys n (omega arith))
    ∙ ap (λ (b : Bool). rows_before xs n + cond b 1 0) (begins_front xs ys n (omega arith)) ∙ sym (row_step xs n) ∙ ap (rows_before xs) (add-one n)

-- the first cells of a list
pub rows_taken : (all : List CellData) (n : ℕ) → n ≤ length all → rows_before (take n all) (length (take n all)) ≡ rows_before all n
rows_taken all n le =
    let long : length (take n all) ≡ n = length-take-le n all le in
    sym (rows_front (take n all) (drop n all) (length (take n all)) (omega arith)) ∙ ap (λ (l : List CellData). rows_before l (length (take n all))) (take-append-drop n all) ∙ ap (rows_before all) long

-- ---- one cell more

pub no_last : (cells lent : List CellData) → lent ≡ cells → None ≡ slice_get lent (length lent - 1) → length cells ≡ 0
no_last cells lent is none = elim (slice_get_cases lent (length lent - 1)).1 [
  | inl e ↦ absurd (let some = e.2 in cc)
  | inr e ↦ (let l = e.0 in let long : length lent ≡ length cells = ap (λ (l : List CellData). length l) is in omega arith)
]

pub last_read : (cells lent : List CellData) (last : CellData) → lent ≡ cells → Some last ≡ slice_get lent (length lent - 1) → (0 < length cells) × (last ≡ get_or cells (length cells - 1) last)
last_read cells lent last is some =
    let read : slice_get cells (length cells - 1) ≡ Some last = sym (some ∙ ap (λ (l : List CellData). slice_get l (length l - 1)) is) in
    let within = slice_get_within cells (length cells - 1) last read in
    (omega arith, sym (get_or_from_slice_get cells (length cells - 1) last last read))

pub none_begins : (cells : List CellData) (c : CellData) → length cells ≡ 0 → true ≡ begins_row (cells ++ c ∷ []) (length cells)
none_begins cells c none = sym (begins_first (cells ++ c ∷ []) (length cells) none)

at_end : (cells : List CellData) (c : CellData) → c ≡ get_or (cells ++ c ∷ []) (length cells) c
at_end [] c = refl
at_end (x ∷ cells) c = at_end cells c

pub last_begins : (cells : List CellData) (c last : CellData) (first second : List ℕ) → 0 < length cells → last ≡ get_or cells (length cells - 1) last → first ≡ last.key → second ≡ c.key
    → begins_row (cells ++ c ∷ []) (length cells) ≡ not (pointwise nat_eq first second)
last_begins cells c last first second some is first-is second-is =
    begins_by (cells ++ c ∷ []) (length cells) last c first second (λ none. omega arith) (omega (arith, length-append cells (c ∷ [])))
    (is ∙ sym (get_or_append_left cells (c ∷ []) last (length cells - 1) (omega arith))) (at_end cells c) first-is second-is

pub counted_more : (cells more : List CellData) (c : CellData) (rows : ℕ) (begins : Bool) → more ≡ cells ++ c ∷ [] → begins ≡ begins_row (cells ++ c ∷ []) (length cells)
    → rows ≡ min (rows_before cells (length cells)) 18446744073709551615
    → min (rows + cond begins 1 0) 18446744073709551615 ≡ min (rows_before more (length more)) 18446744073709551615
counted_more cells more c rows begins is begins-is counted =
    subst (λ (l : List CellData). min (rows + cond begins 1 0) 18446744073709551615 ≡ min (rows_before l (length l)) 18446744073709551615) (sym is) whole
  where
    more_rows : rows_before (cells ++ c ∷ []) (length (cells ++ c ∷ [])) ≡ rows_before cells (length cells) + cond begins 1 0
    more_rows =
        let long : length (cells ++ c ∷ []) ≡ length cells + 1 = length-append cells (c ∷ []) in
        ap (rows_before (cells ++ c ∷ [])) long ∙ row_step (cells ++ c ∷ []) (length cells) ∙ ap (λ (n : ℕ). n + cond (begins_row (cells ++ c ∷ []) (length cells)) 1 0) (rows_front cells (c ∷ []) (length cells) (omega arith))
        ∙ ap (λ (b : Bool). rows_before cells (length cells) + cond b 1 0) (sym begins-is)

    whole : min (rows + cond begins 1 0) 18446744073709551615 ≡ min (rows_before (cells ++ c ∷ []) (length (cells ++ c ∷ []))) 18446744073709551615
    whole = (let m = more_rows in omega arith)

-- ---- rows that were wanted

-- one wants rows until there are so many
abbrev pub wants_rows : ℕ → List CellData → Bool
wants_rows most cells = nat_lt (min (rows_before cells (length cells)) 18446744073709551615) most

module _ (all : List CellData) (most n : ℕ) (within : n ≤ length all) (asked : (i : ℕ) → i < n → begins_row all i ≡ true → wants_rows most (take i all) ≡ true)
    (ended : (n ≡ length all) ⊎ ((n < length all) × (begins_row all n ≡ true) × (wants_rows most (take n all) ≡ false))) where
  wanted : (i : ℕ) → i < n → begins_row all i ≡ true → min (rows_before all i) 18446744073709551615 < most
  wanted i lt begins =
      let w = within in
      let t : nat_lt (min (rows_before (take i all) (length (take i all))) 18446744073709551615) most ≡ true = asked i lt begins in
      subst (λ (m : ℕ). min m 18446744073709551615 < most) (rows_taken all i (omega arith)) (ltb-true (min (rows_before (take i all) (length (take i all))) 18446744073709551615) most t)

  few_to : (m : ℕ) → m ≤ n → min (rows_before all m) 18446744073709551615 ≤ most
  few_to zero le = (let z = row_none all in omega arith)
  few_to (suc m) le =
      let before = few_to m (omega arith) in
      let step : rows_before all (suc m) ≡ rows_before all m + cond (begins_row all m) 1 0 = ap (rows_before all) (sym (add-one m)) ∙ row_step all m in
      by (begins_row all m) refl before step
    where
      by : (b : Bool) → begins_row all m ≡ b → min (rows_before all m) 18446744073709551615 ≤ most → rows_before all (suc m) ≡ rows_before all m + cond b 1 0 → min (rows_before all (suc m)) 18446744073709551615 ≤ most
      by true is before step = (let w = wanted m (omega arith) is in omega arith)
      by false is before step = omega arith

  pub front_is : (cells : List CellData) (rows : ℕ) → cells ≡ take n all → rows ≡ min (rows_before cells (length cells)) 18446744073709551615 → AreFrontRows all most cells rows
  front_is cells rows is counted =
      let w = within in
      let long : length cells ≡ n = ap (λ (l : List CellData). length l) is ∙ length-take-le n all w in
      let count : rows ≡ min (rows_before all n) 18446744073709551615 = counted ∙ ap (λ (l : List CellData). min (rows_before l (length l)) 18446744073709551615) is ∙ ap (λ (m : ℕ). min m 18446744073709551615) (rows_taken all n w) in
      record {
        within = omega arith;
        front = is ∙ ap (λ (m : ℕ). take m all) (sym long);
        few = (let f = few_to n (omega arith) in omega arith);
        ended = elim ended [
          | inl e ↦ inl (long ∙ e)
          | inr e ↦ inr (ap (begins_row all) long ∙ e.1, (let r = enough e.2 in omega arith))
        ];
      }
    where
      enough : wants_rows most (take n all) ≡ false → most ≤ min (rows_before all n) 18446744073709551615
      enough no_more = elim (cases_lt (min (rows_before all n) 18446744073709551615) most) [
        | inl lt ↦ absurd (let w = within in let t : nat_lt (min (rows_before (take n all) (length (take n all))) 18446744073709551615) most ≡ true = lt-ltb _ most (subst (λ (m : ℕ). min m 18446744073709551615 < most) (sym (rows_taken all n w)) lt) in cc)
        | inr le ↦ le
      ]
