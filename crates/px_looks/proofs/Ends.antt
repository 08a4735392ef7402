-- Where a row ends, and how many rows there are up to there.
use Rattle.std.proofs.Common.{◌≡◌, ◌≢◌, ℕ, zero, suc, add-one, cond, ◌+◌, ◌-◌, ◌<◌, ◌≤◌, ◌⊎◌, Bool, true, false, List, [], ◌∷◌, length, take, drop, get_or, refl, ap, sym, subst, ◌∙◌, inl, inr, arith}
use Rattle.std.specs.List.{AllByRecursion}
use Rattle.std.specs.declared.cmp.Ordering.{Ordering}
use Rattle.std.specs.declared.cmp.Ordering.TheVariants.{Less, Equal, Greater}
use Rattle.std.proofs.lemmas.Bool.{cases_Bool, cases_eq, cases_lt}
use Rattle.std.proofs.lemmas.List.{get_or-drop, get_or-take, length-drop, length-take-le, take_rest}
use Rattle.px_cells.specs.CellData.{CellData}
use Rattle.px_cells.specs.Order.{Below, IsAscending, key_cmp}
use Rattle.px_cells.specs.Rows.{AllAbove, AllUpTo}
use Rattle.px_cells.proofs.Keys.{keys_differ}
use Rattle.px_cells.proofs.Orders.{equal_key, key_equal, row_is_together}
use Rattle.px_cells.proofs.RowLemmas.{below_at}
use Rattle.px_region.specs.Giving.{begins_row, key_at, rows_before}
use Rattle.px_region.proofs.Given.{begins_next, row_step}
use Rattle.px_calls.specs.declared.query.FoundKey.{FoundKey}
use Rattle.px_looks.specs.Found.{RowContents}
use Rattle.px_looks.specs.inner.Among.{FoundAmong}
use Rattle.px_looks.specs.inner.Lent.{IsRowEnd}
use Rattle.px_looks.proofs.Among.{begins_not, found_same, rows_one}
use Rattle.px_looks.proofs.Cut.{below_key, no_cell}

all_at : (P : CellData → Type 0) (xs : List CellData) (n : ℕ) (d : CellData) → AllByRecursion P xs → n < length xs → P (get_or xs n d)
all_at P [] n d a lt = absurd (omega arith)
all_at P (x ∷ xs) zero d a lt = a.0
all_at P (x ∷ xs) (suc n) d a lt = all_at P xs n d a.1 (omega arith)

pub rest_at : (cells : List CellData) (at n : ℕ) (d : CellData) → get_or (take (length cells - at) (drop at cells)) n d ≡ get_or cells (at + n) d
rest_at cells at n d = ap (λ (l : List CellData). get_or l n d) (take_rest cells at) ∙ get_or-drop at cells n d

pub rest_length : (cells : List CellData) (at : ℕ) → at ≤ length cells → length (take (length cells - at) (drop at cells)) + at ≡ length cells
rest_length cells at le = (let e = ap length (take_rest cells at) in let l = length-drop at cells in omega arith)

module _ (cells : List CellData) (at r : ℕ) (key : List ℕ) (up : IsAscending cells) (inside : at < length cells) (is : key ≡ key_at cells at) (within : r ≤ length (take (length cells - at) (drop at cells)))
    (up_to : AllUpTo key (take r (take (length cells - at) (drop at cells)))) (above : AllAbove key (drop r (take (length cells - at) (drop at cells)))) where
  in_front : (n : ℕ) → n < r → key_cmp (key_at cells (at + n)) key ≢ Greater
  in_front n lt =
      subst (λ (c : CellData). key_cmp c.key key ≢ Greater) (get_or-take r (take (length cells - at) (drop at cells)) n no_cell lt ∙ rest_at cells at n no_cell)
      (all_at (λ c. key_cmp c.key key ≢ Greater) (take r (take (length cells - at) (drop at cells))) n no_cell up_to (let l = length-take-le r (take (length cells - at) (drop at cells)) within in omega arith))

  behind : (n : ℕ) → r ≤ n → n < length (take (length cells - at) (drop at cells)) → key_cmp (key_at cells (at + n)) key ≡ Greater
  behind n le lt =
      subst (λ (c : CellData). key_cmp c.key key ≡ Greater) (get_or-drop r (take (length cells - at) (drop at cells)) (n - r) no_cell ∙ ap (λ (m : ℕ). get_or (take (length cells - at) (drop at cells)) m no_cell) (sum n le) ∙ rest_at cells at n no_cell)
      (all_at (λ c. key_cmp c.key key ≡ Greater) (drop r (take (length cells - at) (drop at cells))) (n - r) no_cell above (let l = length-drop r (take (length cells - at) (drop at cells)) in omega arith))
    where
      sum : (n : ℕ) → r ≤ n → r + (n - r) ≡ n
      sum n le = omega arith

  some : 0 < r
  some = elim (cases_eq r 0) [
    | inl e ↦ absurd (not_greater (key_at cells at) key (sym is) (subst (λ (j : ℕ). key_cmp (key_at cells j) key ≡ Greater) none (behind 0 (omega arith) (let l = rest_length cells at (omega arith) in omega arith))))
    | inr e ↦ omega arith
  ]
    where
      none : at + 0 ≡ at
      none = omega arith

      not_greater : (a b : List ℕ) → a ≡ b → key_cmp a b ≡ Greater → ⊥
      not_greater a b e g = (let q = equal_key a b e in let z : Equal ≡ Greater = sym q ∙ g in cc)

  one_key : (j : ℕ) → at ≤ j → j < at + r → key_at cells j ≡ key
  one_key j from to = elim (cases_eq at j) [
    | inl e ↦ ap (key_at cells) (sym e) ∙ sym is
    | inr e ↦ by (key_cmp (key_at cells j) key) refl
  ]
    where
      sum : at + (j - at) ≡ j
      sum = omega arith

      by : (o : Ordering) → key_cmp (key_at cells j) key ≡ o → key_at cells j ≡ key
      by Less l = absurd (elim (cases_eq at j) [
        | inl q ↦ (let z = equal_key (key_at cells j) key (ap (key_at cells) (sym q) ∙ sym is) in let y : Equal ≡ Less = sym z ∙ l in cc)
        | inr q ↦ below_key (get_or cells at no_cell) (get_or cells j no_cell) (below_at cells at j no_cell up (omega arith) (let w = within in let n = rest_length cells at (omega arith) in omega arith)) (subst (λ (k : List ℕ). key_cmp (key_at cells j) k ≡ Less) is l)
      ])
      by Equal e = key_equal (key_at cells j) key e
      by Greater g = absurd (in_front (j - at) (omega arith) (subst (λ (i : ℕ). key_cmp (key_at cells i) key ≡ Greater) (sym sum) g))

  pub row_ends : IsRowEnd cells at (at + r) key
  row_ends = record {
    on = (let s = some in omega arith);
    within = (let w = within in let n = rest_length cells at (omega arith) in omega arith);
    one = one_key;
    other = λ lt e. (let g = behind r (omega arith) (let n = rest_length cells at (omega arith) in omega arith) in let q = equal_key (key_at cells (at + r)) key e in let z : Equal ≡ Greater = sym q ∙ g in cc);
  }

module _ (cells : List CellData) (at end : ℕ) (key : List ℕ) (z : IsRowEnd cells at end key) where
  pub end_one : (j : ℕ) → at < j → j < end → begins_row cells j ≡ false
  end_one j from to = elim (cases_Bool (begins_row cells j)) [
    | inl t ↦ absurd (keys_differ (key_at cells (j - 1)) (key_at cells j) (key_at cells (j - 1)) (key_at cells j) refl refl (sym (begins_next cells j (j - 1) (omega arith)) ∙ t) (z.one (j - 1) (omega arith) (omega arith) ∙ sym (z.one j (omega arith) to)))
    | inr f ↦ f
  ]

  pub end_next : end < length cells → begins_row cells end ≡ true
  end_next lt = elim (cases_Bool (begins_row cells end)) [
    | inl t ↦ t
    | inr f ↦ absurd (z.other lt (sym (begins_not cells end f).1 ∙ z.one (end - 1) (let o = z.on in omega arith) (let o = z.on in omega arith)))
  ]

-- ---- the same by a part of the list that goes on to another row

module _ (cells : List CellData) (at from to : ℕ) (key : List ℕ) (up : IsAscending cells) (on : at ≤ from) (before : from < to) (within : to ≤ length cells) (first : key_at cells at ≡ key) (known : key_at cells from ≡ key)
    (other : to < length cells → key_at cells to ≡ key → ⊥) where
  between : (j : ℕ) → at ≤ j → j ≤ from → key_at cells j ≡ key
  between j a le = elim (cases_eq j from) [
    | inl e ↦ ap (key_at cells) e ∙ known
    | inr e ↦ row_is_together (get_or cells at no_cell) (get_or cells j no_cell) (get_or cells from no_cell) (begun (cases_eq at j)) (below_at cells j from no_cell up (omega arith) (omega arith)) (first ∙ sym known) ∙ known
  ]
    where
      begun : (at ≡ j) ⊎ (at ≢ j) → (get_or cells at no_cell ≡ get_or cells j no_cell) ⊎ Below (get_or cells at no_cell) (get_or cells j no_cell)
      begun (inl q) = inl (ap (λ (n : ℕ). get_or cells n no_cell) q)
      begun (inr q) = inr (below_at cells at j no_cell up (omega arith) (omega arith))

  pub next_ends : to ≡ from + 1 → IsRowEnd cells at to key
  next_ends e = record { on = omega arith; within = within; one = λ j a lt. between j a (omega arith); other = other }

  pub part_ends : (end : ℕ) → IsRowEnd (take to cells) from end (key_at (take to cells) from) → IsRowEnd cells at end key
  part_ends end z = record {
    on = (let o = z.on in omega arith);
    within = (let w = z.within in let l = length-take-le to cells within in omega arith);
    one = λ j a lt. elim (cases_lt from j) [
      | inr le ↦ between j a (omega arith)
      | inl gt ↦ sym (same j (let w = z.within in let l = length-take-le to cells within in omega arith)) ∙ z.one j (omega arith) lt ∙ same from before ∙ known
    ];
    other = λ lt. elim (cases_eq end to) [
      | inl e ↦ (λ q. other (omega arith) (ap (key_at cells) (sym e) ∙ q))
      | inr e ↦ (λ q. let w = z.within in let l = length-take-le to cells within in z.other (omega arith) (same end (omega arith) ∙ q ∙ sym (same from before ∙ known)))
    ];
  }
    where
      same : (j : ℕ) → j < to → key_at (take to cells) j ≡ key_at cells j
      same j lt = ap (λ (c : CellData). c.key) (get_or-take to cells j no_cell lt)

-- ---- how many rows there are up to there

pub rows_over : (cells : List CellData) (i m : ℕ) → i < m → begins_row cells i ≡ true → ((j : ℕ) → i < j → j < m → begins_row cells j ≡ false) → rows_before cells m ≡ rows_before cells i + 1
rows_over cells i zero lt begins none = absurd (omega arith)
rows_over cells i (suc m) lt begins none = elim (cases_eq i m) [
  | inl e ↦ ap (rows_before cells) (here e) ∙ rows_one cells i begins
  | inr e ↦ ap (rows_before cells) (sym (add-one m)) ∙ row_step cells m ∙ ap (λ (b : Bool). rows_before cells m + cond b 1 0) (none m (omega arith) (omega arith)) ∙ (let r = rows_over cells i m (omega arith) begins (λ j a b. none j a (omega arith)) in omega arith)
]
  where
    here : i ≡ m → suc m ≡ i + 1
    here e = omega arith

module _ (shows : List ℕ → RowContents → FoundKey → Type 0) (cells : List CellData) where
  pub found_over : (n m : ℕ) (fs : List FoundKey) → n ≤ m → ((j : ℕ) → n ≤ j → j < m → begins_row cells j ≡ false) → FoundAmong shows cells n fs → FoundAmong shows cells m fs
  found_over n zero fs le none h = subst (λ (k : ℕ). FoundAmong shows cells k fs) (zero_is le) h
    where
      zero_is : n ≤ 0 → n ≡ 0
      zero_is le = omega arith
  found_over n (suc m) fs le none h = elim (cases_eq n (suc m)) [
    | inl e ↦ subst (λ (k : ℕ). FoundAmong shows cells k fs) e h
    | inr e ↦ (let same = begins_not cells m (none m (omega arith) (omega arith)) in
        subst (λ (k : ℕ). FoundAmong shows cells k fs) (add-one m) (found_same shows cells m fs same.0 same.1 (found_over n m fs (omega arith) (λ j a b. none j a (omega arith)) h)))
  ]
