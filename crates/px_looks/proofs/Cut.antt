-- The first rows of a range, and the range that they are.
use Rattle.std.proofs.Common.{◌≡◌, ℕ, zero, suc, add-one, cond, ◌+◌, ◌-◌, ◌<◌, ◌≤◌, true, Option, Some, List, [], ◌∷◌, ◌++◌, length, take, get_or, refl, ap, sym, subst, ◌∙◌, append_assoc, inl, inr, arith}
use Rattle.std.specs.Prelude.{min, not, nat_eq, drop}
use Rattle.std.proofs.lemmas.List.{length-take-le, take-append-drop}
use Rattle.std.specs.Cmp.Lexicographic.{pointwise}
use Rattle.std.specs.declared.cmp.Ordering.TheVariants.{Less}
use Rattle.px_cells.specs.declared.kind.CellKind.TheVariants.{Put}
use Rattle.px_cells.specs.Among.{Has}
use Rattle.px_cells.specs.CellData.{CellData}
use Rattle.px_cells.specs.Order.{Below, IsAscending, key_cmp}
use Rattle.px_cells.specs.Rows.{AreRows, IsBeforeEnd}
use Rattle.px_cells.proofs.Among.{after_is_above, ascending_left, before_is_below, has_append, has_from_reads, has_left, reads_from_has}
use Rattle.px_cells.proofs.Stamps.{has_last}
use Rattle.px_cells.proofs.Keys.{keys_differ}
use Rattle.px_cells.proofs.Orders.{below_from_order, not_below_itself, below_trans, row_is_together}
use Rattle.px_cells.proofs.Orders.Order.{by_key}
use Rattle.px_region.specs.Giving.{begins_row, key_at, rows_before}
use Rattle.px_region.proofs.Given.{begins_first, begins_next, row_none, row_step}
use Rattle.px_looks.specs.Keys.{IsBetweenKeys, next_key}
use Rattle.px_looks.specs.inner.Lent.{AreFirst, IsTaken}
use Rattle.px_looks.proofs.KeyOrder.{before_up, equal, higher, key_itself, keys_by, less_next, lower, next_less}

abbrev pub no_cell : CellData
no_cell = record { key = []; qualifier = 0; stamp = 0; kind = Put; value = [] }

-- a cell that stands below another hasn't a greater key
pub below_key : (a b : CellData) → Below a b → key_cmp b.key a.key ≡ Less → ⊥
below_key a b below less = not_below_itself a (below_trans a b a below (below_from_order b a (by_key less)))

-- the rows up to one that begins with another key
pub rows_to : (cells : List CellData) (low : List ℕ) (high : Option (List ℕ)) (front : List CellData) (c : CellData) (rest : List CellData) → AreRows cells low high (front ++ c ∷ rest)
    → ((d : CellData) (more : List CellData) → rest ≡ d ∷ more → d.key ≡ c.key → ⊥) → AreRows cells low (Some (next_key c.key)) (front ++ c ∷ [])
rows_to cells low high front c rest are other = record {
  ascending = up;
  exact = λ x. (
    (λ r. (let has = has_from_reads (front ++ c ∷ []) x r in
        let all = (are.exact x).0 (reads_from_has (front ++ c ∷ rest) x are.ascending (subst (λ l. Has l x) (append_assoc front (c ∷ []) rest) (has_left (front ++ c ∷ []) rest x has))) in (
          all.0,
          (
            all.1.0,
            next_less x.key c.key (λ less. elim (has_append front (c ∷ []) x has) [
              | inl a ↦ below_key x c (before_is_below front rest c x are.ascending a) less
              | inr (inl e) ↦ key_itself c.key (subst (λ z. key_cmp c.key z.key ≡ Less) (sym e) less)
              | inr (inr e) ↦ e
            ]),
          ),
        ))),
    (λ r. (let up_to = less_next x.key c.key r.1.1 in
        let all = has_from_reads (front ++ c ∷ rest) x ((are.exact x).1 (r.0, (r.1.0, before_up x.key c.key high up_to c_end))) in
        reads_from_has (front ++ c ∷ []) x up (elim (has_append (front ++ c ∷ []) rest x (subst (λ l. Has l x) (sym (append_assoc front (c ∷ []) rest)) all)) [
          | inl a ↦ a
          | inr a ↦ absurd (behind rest refl x up_to a)
        ]))),
  );
}
  where
    up : IsAscending (front ++ c ∷ [])
    up = ascending_left (front ++ c ∷ []) rest (subst IsAscending (sym (append_assoc front (c ∷ []) rest)) are.ascending)

    has_c : Has (front ++ c ∷ rest) c
    has_c = subst (λ l. Has l c) (append_assoc front (c ∷ []) rest) (has_left (front ++ c ∷ []) rest c (has_last front c))

    c_end : IsBeforeEnd c.key high
    c_end = ((are.exact c).0 (reads_from_has (front ++ c ∷ rest) c are.ascending has_c)).1.1

    -- no cell behind has a key up to that one
    behind : (l : List CellData) → rest ≡ l → (x : CellData) → (key_cmp c.key x.key ≡ Less → ⊥) → Has l x → ⊥
    behind [] e x up_to has = has
    behind (d ∷ more) e x up_to has =
        let above : Below c x = after_is_above front rest c x are.ascending (subst (λ l. Has l x) (sym e) has) in
        let first : Below c d = after_is_above front rest c d are.ascending (subst (λ l. Has l d) (sym e) (inl refl)) in
        let same : c.key ≡ x.key = elim (keys_by c.key x.key) [
          | lower l ↦ absurd (up_to l)
          | equal q ↦ q
          | higher l ↦ absurd (below_key c x above l)
        ] in
        other d more e (elim has [
          | inl q ↦ (ap (λ (z : CellData). z.key) q ∙ sym same)
          | inr h ↦ (row_is_together c d x (inr first) (after_is_above (front ++ c ∷ []) more d x (subst IsAscending (ap (λ l. front ++ c ∷ l) e ∙ sym (append_assoc front (c ∷ []) (d ∷ more))) are.ascending) h) same ∙ sym same)
        ])

-- a list cut behind its n-th element
pub record IsCut (all : List CellData) (n : ℕ) : Type 0 where
  pub front : List CellData
  pub cell : CellData
  pub rest : List CellData
  pub whole : all ≡ front ++ cell ∷ rest
  pub taken : take n all ≡ front ++ cell ∷ []
  pub key : key_at all (n - 1) ≡ cell.key
  pub next : (d : CellData) (more : List CellData) → rest ≡ d ∷ more → (n < length all) × (key_at all n ≡ d.key)

pub cut_at : (all : List CellData) (n : ℕ) → 0 < n → n ≤ length all → IsCut all n
cut_at [] n some le = absurd (omega arith)
cut_at (c ∷ all) zero some le = absurd (omega arith)
cut_at (c ∷ all) (suc zero) some le = record {
  front = [];
  cell = c;
  rest = all;
  whole = refl;
  taken = refl;
  key = refl;
  next = λ d more e. (subst (λ (l : List CellData). 1 < length (c ∷ l)) (sym e) (omega arith), ap (λ (l : List CellData). key_at (c ∷ l) 1) e);
}
cut_at (c ∷ all) (suc (suc n)) some le =
    let r = cut_at all (suc n) (omega arith) (omega arith) in
    let one : suc (suc n) - 1 ≡ suc n = omega arith in
    let two : n ≡ suc n - 1 = omega arith in
    record {
      front = c ∷ r.front;
      cell = r.cell;
      rest = r.rest;
      whole = ap (λ (l : List CellData). c ∷ l) r.whole;
      taken = ap (λ (l : List CellData). c ∷ l) r.taken;
      key = ap (key_at (c ∷ all)) one ∙ ap (key_at all) two ∙ r.key;
      next = λ d more e. (let z = r.next d more e in (omega (arith, z.0), z.1));
    }

-- the first rows are the range up to the key of their last cell
pub first_to : (cells : List CellData) (low : List ℕ) (high : Option (List ℕ)) (all : List CellData) (n : ℕ) → AreRows cells low high all → n ≤ length all → (n < length all → begins_row all n ≡ true) → 0 < n
    → AreRows cells low (Some (next_key (key_at all (n - 1)))) (take n all)
first_to cells low high all n are within begins some =
    let z = cut_at all n some within in
    let rows = rows_to cells low high z.front z.cell z.rest (subst (AreRows cells low high) z.whole are) (λ d more e. other z d more e) in
    subst (λ (k : List ℕ). AreRows cells low (Some (next_key k)) (take n all)) (sym z.key) (subst (AreRows cells low (Some (next_key z.cell.key))) (sym z.taken) rows)
  where
    other : (z : IsCut all n) (d : CellData) (more : List CellData) → z.rest ≡ d ∷ more → d.key ≡ z.cell.key → ⊥
    other z d more e same =
        let next = z.next d more e in
        keys_differ (key_at all (n - 1)) (key_at all n) z.cell.key d.key z.key next.1 (sym (begins_next all n (n - 1) (omega arith)) ∙ begins next.0) (sym same)

take_whole : (l : List CellData) (m : ℕ) → length l ≤ m → take m l ≡ l
take_whole [] zero le = refl
take_whole [] (suc m) le = refl
take_whole (c ∷ l) zero le = absurd (omega arith)
take_whole (c ∷ l) (suc m) le = ap (λ (x : List CellData). c ∷ x) (take_whole l m (omega arith))

-- ---- the first cells of a list

pub front_at : (xs ys : List CellData) (i : ℕ) (d : CellData) → i < length xs → get_or (xs ++ ys) i d ≡ get_or xs i d
front_at [] ys i d lt = absurd (omega arith)
front_at (x ∷ xs) ys zero d lt = refl
front_at (x ∷ xs) ys (suc i) d lt = front_at xs ys i d (omega arith)

pub begins_front : (xs ys : List CellData) (i : ℕ) → i < length xs → begins_row (xs ++ ys) i ≡ begins_row xs i
begins_front xs ys zero lt = begins_first (xs ++ ys) 0 refl ∙ sym (begins_first xs 0 refl)
begins_front xs ys (suc i) lt =
    begins_next (xs ++ ys) (suc i) i refl ∙ (λ j. not (pointwise nat_eq (front_at xs ys i no_cell (omega arith) j).key (front_at xs ys (suc i) no_cell lt j).key)) ∙ sym (begins_next xs (suc i) i refl)

pub rows_front : (xs ys : List CellData) (n : ℕ) → n ≤ length xs → rows_before (xs ++ ys) n ≡ rows_before xs n
rows_front xs ys zero le = row_none (xs ++ ys) ∙ sym (row_none xs)
rows_front xs ys (suc n) le =
    ap (rows_before (xs ++ ys)) (sym (add-one n)) ∙ row_step (xs ++ ys) n ∙ (λ j. rows_front xs ys n (omega arith) j + cond (begins_front xs ys n (omega arith) j) 1 0) ∙ sym (row_step xs n) ∙ ap (rows_before xs) (add-one n)

pub has_at : (cells : List CellData) (i : ℕ) (d : CellData) → i < length cells → Has cells (get_or cells i d)
has_at [] i d lt = absurd (omega arith)
has_at (c ∷ cells) zero d lt = inl refl
has_at (c ∷ cells) (suc i) d lt = inr (has_at cells i d (omega arith))

pub key_in_rows : (all : List CellData) (low : List ℕ) (high : Option (List ℕ)) (rows : List CellData) → AreRows all low high rows → (i : ℕ) → i < length rows → IsBetweenKeys low high (key_at rows i)
key_in_rows all low high rows are i lt = ((are.exact (get_or rows i no_cell)).0 (reads_from_has rows (get_or rows i no_cell) are.ascending (has_at rows i no_cell lt))).1

module _ (cells : List CellData) (low : List ℕ) (high : Option (List ℕ)) (most rows : ℕ) (all got : List CellData) (fits : rows ≤ 18446744073709551615) (are : AreRows cells low high all) (first : AreFirst all most rows got) where
  len : length (take first.count all) ≡ first.count
  len = length-take-le first.count all first.within

  rows_of : rows_before (take first.count all) (length (take first.count all)) ≡ rows
  rows_of =
      ap (rows_before (take first.count all)) len ∙ sym (rows_front (take first.count all) (drop first.count all) first.count (let l = len in omega arith)) ∙ ap (λ (l : List CellData). rows_before l first.count) (take-append-drop first.count all)
      ∙ sym first.counted

  from : 0 < length (take first.count all) → 0 < first.count
  from some = (let l = len in omega arith)

  last_key : 0 < length (take first.count all) → key_at (take first.count all) (length (take first.count all) - 1) ≡ key_at all (first.count - 1)
  last_key some =
      ap (λ (m : ℕ). key_at (take first.count all) (m - 1)) len
      ∙ ap (λ (x : CellData). x.key) (sym (front_at (take first.count all) (drop first.count all) (first.count - 1) no_cell (let l = len in let f = from some in omega arith))) ∙ ap (λ (l : List CellData). key_at l (first.count - 1)) (take-append-drop first.count all)

  begins : first.count < length all → begins_row all first.count ≡ true
  begins lt = elim first.ended [ inl e ↦ absurd (omega arith) | inr e ↦ e.1 ]

  whole : rows < most → AreRows cells low high (take first.count all)
  whole less = elim first.ended [
    | inl e ↦ subst (AreRows cells low high) (sym (take_whole all first.count (omega arith))) are
    | inr e ↦ absurd (let q = e.2 in omega arith)
  ]

  pub taken_of : IsTaken cells low high most rows got
  taken_of = subst (IsTaken cells low high most rows) (sym first.are)
      (record {
        counted = (let r = rows_of in omega arith);
        few = (let r = rows_of in let f = first.few in omega arith);
        all = whole;
        part = λ some. subst (λ (k : List ℕ). AreRows cells low (Some (next_key k)) (take first.count all)) (sym (last_key some)) (first_to cells low high all first.count are first.within begins (from some));
        within = λ some. subst (IsBetweenKeys low high) (sym (last_key some)) (key_in_rows cells low high all are (first.count - 1) (let f = from some in let w = first.within in omega arith));
      })
