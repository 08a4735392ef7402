-- The first rows of two stores and of files, up to where both stores have theirs in one piece.
use Rattle.std.proofs.Common.{◌≡◌, ◌⊎◌, ℕ, ◌<◌, ◌≤◌, Bool, true, false, Option, Some, None, List, ◌∷◌, ◌++◌, length, refl, sym, ap, subst, ◌∙◌, inl, inr, arith}
use Rattle.std.specs.Prelude.{min}
use Rattle.std.proofs.lemmas.Bool.{cases_lt}
use Rattle.std.specs.declared.cmp.Ordering.TheVariants.{Less}
use Rattle.px_cells.specs.Among.{Has}
use Rattle.px_cells.specs.CellData.{CellData}
use Rattle.px_cells.specs.Order.{IsAscending, key_cmp}
use Rattle.px_cells.specs.Rows.{AreRows, IsBeforeEnd}
use Rattle.px_cells.proofs.Among.{ascending_left, has_from_reads, has_left, has_right, reads_from_has}
use Rattle.px_memstore.specs.Pieces.{AreFirstRows}
use Rattle.px_merge.specs.Merged.{joined}
use Rattle.px_merge.specs.Parts.{ReadsPart}
use Rattle.px_merge.specs.Settle.{settle}
use Rattle.px_merge.proofs.Settling.{settle_is}
use Rattle.px_sources.specs.Giving.{rows_before}
use Rattle.px_sources.proofs.Given.{row_none}
use Rattle.px_reads.specs.inner.Fronts.{AreFrontRows}
use Rattle.px_reads.specs.inner.Ends.{EndsBehind, lesser_end}
use Rattle.px_reads.specs.Range.{IsWithin, next_key}
use Rattle.px_reads.proofs.Ends.{Ending, before_first, before_lesser, before_second, ending, lesser_none, no_ending, rows_of_first}
use Rattle.px_reads.proofs.First.{first_rows_are}
use Rattle.px_reads.proofs.Fronts.{front_some, some_rows}
use Rattle.px_reads.proofs.KeyOrder.{above_itself, equal, higher, key_trans, keys_by, lower}
use Rattle.px_reads.proofs.Rows.{rows_of_all}

module _ (cells : List CellData) (low : List ℕ) (high : Option (List ℕ)) (first : List CellData) (is_all : Bool) (are : AreFirstRows cells low high first is_all) where
  pub first_sorted : IsAscending first
  first_sorted = ascending_left first are.others are.rows.ascending

  -- each is a cell of the list, and of the range
  pub of_first : (c : CellData) → Has first c → Has cells c × IsWithin low high c.key
  of_first c has =
      let r = (are.rows.exact c).0 (reads_from_has (first ++ are.others) c are.rows.ascending (has_left first are.others c has)) in
      (has_from_reads cells c r.0, r.1)

module _ (store below : List CellData) (lists : List (List CellData)) (low : List ℕ) (high : Option (List ℕ))
    (newer : List CellData) (newer_all : Bool) (newer_are : AreFirstRows store low high newer newer_all) (newer_end : Option (List ℕ)) (newer_ends : EndsBehind newer newer_all newer_end)
    (older : List CellData) (older_all : Bool) (older_are : AreFirstRows below low high older older_all) (older_end : Option (List ℕ)) (older_ends : EndsBehind older older_all older_end)
    (newer_rows older_rows : List CellData) (parts : List (List CellData)) (end : Option (List ℕ)) (end_is : end ≡ lesser_end (lesser_end newer_end older_end) high)
    (newer_part : AreRows newer low end newer_rows) (older_part : AreRows older low end older_rows) (part : ReadsPart (IsWithin low end) (joined lists) (joined parts)) where
  abbrev pub all : List CellData
  all = joined (store ∷ below ∷ lists)

  abbrev pub rows : List CellData
  rows = settle (joined (newer_rows ∷ older_rows ∷ parts))

  before_all : (k : List ℕ) → IsBeforeEnd k end → IsBeforeEnd k newer_end × IsBeforeEnd k older_end × IsBeforeEnd k high
  before_all k at =
      let whole = subst (IsBeforeEnd k) end_is at in
      let both = before_first (lesser_end newer_end older_end) high k whole in
      (before_first newer_end older_end k both, before_second newer_end older_end k both, before_second (lesser_end newer_end older_end) high k whole)

  before_end : (k : List ℕ) → IsBeforeEnd k newer_end → IsBeforeEnd k older_end → IsBeforeEnd k high → IsBeforeEnd k end
  before_end k one two three = subst (IsBeforeEnd k) (sym end_is) (before_lesser (lesser_end newer_end older_end) high k (before_lesser newer_end older_end k one two) three)

  pub newer_are_rows : AreRows store low end newer_rows
  newer_are_rows = rows_of_first store low high newer newer_all newer_are newer_end newer_ends end newer_rows (λ k at. (let b = before_all k at in (b.0, b.2))) newer_part

  pub older_are_rows : AreRows below low end older_rows
  older_are_rows = rows_of_first below low high older older_all older_are older_end older_ends end older_rows (λ k at. (let b = before_all k at in (b.1, b.2))) older_part

  are : AreRows (settle all) low end rows
  are = rows_of_all low end store below newer_rows older_rows lists parts newer_are_rows older_are_rows part

  -- ---- where a store hasn't all, there is a row

  by_newer : (m : Ending newer newer_end) → IsBeforeEnd m.last.key older_end → 0 < length rows
  by_newer m before =
      let of = of_first store low high newer newer_all newer_are m.last m.has in
      let own : IsBeforeEnd m.last.key newer_end = subst (IsBeforeEnd m.last.key) (sym m.own_is) (above_itself m.last.key) in
      some_rows all rows low end m.last are (has_left store (joined (below ∷ lists)) m.last of.0) (of.1.0, before_end m.last.key own before of.1.1)

  by_older : (m : Ending older older_end) → IsBeforeEnd m.last.key newer_end → 0 < length rows
  by_older m before =
      let of = of_first below low high older older_all older_are m.last m.has in
      let own : IsBeforeEnd m.last.key older_end = subst (IsBeforeEnd m.last.key) (sym m.own_is) (above_itself m.last.key) in
      some_rows all rows low end m.last are (has_right store (joined (below ∷ lists)) m.last (has_left below (joined lists) m.last of.0)) (of.1.0, before_end m.last.key before own of.1.1)

  -- at or below the last key of others is before their end
  before_other : (a b : List ℕ) (own : Option (List ℕ)) → own ≡ Some (next_key b) → (key_cmp a b ≡ Less) ⊎ (a ≡ b) → IsBeforeEnd a own
  before_other a b own is which = subst (IsBeforeEnd a) (sym is) (elim which [
    | inl l ↦ key_trans a b (next_key b) l (above_itself b)
    | inr e ↦ subst (λ (k : List ℕ). key_cmp k (next_key b) ≡ Less) (sym e) (above_itself b)
  ])

  not_all : (newer_all ≡ false) ⊎ (older_all ≡ false) → 0 < length rows
  not_all which = by newer_all older_all refl refl which
    where
      both : Ending newer newer_end → Ending older older_end → 0 < length rows
      both m n = elim (keys_by m.last.key n.last.key) [
        | lower l ↦ by_newer m (before_other m.last.key n.last.key older_end n.own_is (inl l))
        | equal e ↦ by_newer m (before_other m.last.key n.last.key older_end n.own_is (inr e))
        | higher l ↦ by_older n (before_other n.last.key m.last.key newer_end m.own_is (inl l))
      ]

      by : (x y : Bool) → newer_all ≡ x → older_all ≡ y → (newer_all ≡ false) ⊎ (older_all ≡ false) → 0 < length rows
      by true true is is' which = absurd (elim which [ inl e ↦ (let f = sym is ∙ e in cc) | inr e ↦ (let f = sym is' ∙ e in cc) ])
      by true false is is' which = by_older (ending older older_all older_end is' older_ends) (subst (IsBeforeEnd (ending older older_all older_end is' older_ends).last.key) (sym (no_ending newer newer_all newer_end is newer_ends)) tt)
      by false true is is' which = by_newer (ending newer newer_all newer_end is newer_ends) (subst (IsBeforeEnd (ending newer newer_all newer_end is newer_ends).last.key) (sym (no_ending older older_all older_end is' older_ends)) tt)
      by false false is is' which = both (ending newer newer_all newer_end is newer_ends) (ending older older_all older_end is' older_ends)

  -- the end is that of the range where both stores have all
  whole_end : newer_all ≡ true → older_all ≡ true → end ≡ high
  whole_end one two =
      end_is ∙ ap (λ (o : Option (List ℕ)). lesser_end (lesser_end o older_end) high) (no_ending newer newer_all newer_end one newer_ends)
      ∙ ap (λ (o : Option (List ℕ)). lesser_end (lesser_end None o) high) (no_ending older older_all older_end two older_ends) ∙ lesser_none high

  pub first_of_all : (most count : ℕ) (cells : List CellData) → AreFrontRows rows most cells count → 0 < most → count ≡ min (rows_before cells (length cells)) 18446744073709551615 → (flag : Bool)
      → (flag ≡ true → (newer_all ≡ true) × (older_all ≡ true) × (count < most)) → (flag ≡ false → ((newer_all ≡ false) ⊎ (older_all ≡ false)) ⊎ (most ≤ count)) → AreFirstRows (settle all) low high cells flag
  first_of_all most count cells front some counted flag where_all where_not =
      first_rows_are (settle all) (settle_is all).ascending low high end rows are (λ k at. (before_all k at).2) most count cells front flag
      (λ t. (let y = where_all t in (whole_end y.0 y.1, y.2)))
      (λ f. front_some rows most cells count front some counted (elim (where_not f) [ inl e ↦ not_all e | inr le ↦ some_counted le ]))
    where
      some_counted : most ≤ count → 0 < length rows
      some_counted le = elim (cases_lt 0 (length rows)) [ inl lt ↦ lt | inr none ↦ absurd (none_counted none) ]
        where
          none_counted : length rows ≤ 0 → ⊥
          none_counted none =
              let w = front.within in
              let z : length cells ≡ 0 = omega arith in
              let c : count ≡ 0 = counted ∙ ap (λ (n : ℕ). min (rows_before cells n) 18446744073709551615) z ∙ ap (λ (n : ℕ). min n 18446744073709551615) (row_none cells) in
              omega arith
