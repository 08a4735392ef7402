-- The first rows of a range, of all its rows.
use Rattle.std.proofs.Common.{◌≡◌, ℕ, ◌-◌, ◌<◌, Bool, true, false, Option, Some, List, [], ◌++◌, length, take, refl, sym, subst, ◌∙◌, append-nil, inl, inr, arith}
use Rattle.std.proofs.lemmas.List.{take_all}
use Rattle.std.specs.declared.cmp.Ordering.TheVariants.{Less}
use Rattle.px_cells.specs.Among.{Has}
use Rattle.px_cells.specs.CellData.{CellData}
use Rattle.px_cells.specs.Order.{IsAscending, Reads, key_cmp}
use Rattle.px_cells.specs.Rows.{AreRows, IsBeforeEnd}
use Rattle.px_cells.proofs.Among.{ascending_join, has_append, has_from_reads, has_left, has_right, reads_from_has}
use Rattle.px_cells.proofs.Orders.{below_from_order}
use Rattle.px_cells.proofs.Orders.Order.{by_key}
use Rattle.px_cursor.specs.Range.{cells_within}
use Rattle.px_cursor.proofs.Ranges.{ascending_within, has_within, within_from, within_has, within_to}
use Rattle.px_memstore.specs.Pieces.{AreFirstRows}
use Rattle.px_sources.specs.Giving.{key_at}
use Rattle.px_reads.specs.inner.Fronts.{AreFrontRows}
use Rattle.px_reads.specs.Range.{next_key}
use Rattle.px_reads.proofs.Cut.{first_to, key_in_rows}
use Rattle.px_reads.proofs.KeyOrder.{before_up, equal, higher, key_both, key_itself, key_on, keys_by, less_next, lower}

-- Behind the rows up to a key stand the others of the range.
module _ (all : List CellData) (sorted : IsAscending all) (low : List ℕ) (high : Option (List ℕ)) (e : List ℕ) (got : List CellData) (are : AreRows all low (Some e) got) (lesser : (k : List ℕ) → key_cmp k e ≡ Less → IsBeforeEnd k high) where
  abbrev pub others : List CellData
  others = cells_within e high (cells_within low high all)

  of_others : (c : CellData) → Has others c → Has all c × ((key_cmp c.key low ≡ Less → ⊥) × (key_cmp c.key e ≡ Less → ⊥) × IsBeforeEnd c.key high)
  of_others c has =
      let a = has_within e high (cells_within low high all) c has in
      let b = has_within low high all c a.0 in
      let x = within_from e high c.key a.1 in
      let y = within_from low high c.key b.1 in
      (b.0, (y.0, x.0, x.1))

  to_others : (c : CellData) → Has all c → (key_cmp c.key low ≡ Less → ⊥) → (key_cmp c.key e ≡ Less → ⊥) → IsBeforeEnd c.key high → Has others c
  to_others c has from behind before = within_has e high (cells_within low high all) c (within_has low high all c has (within_to low high c.key from before)) (within_to e high c.key behind before)

  of_got : (c : CellData) → Has got c → Reads all c × ((key_cmp c.key low ≡ Less → ⊥) × (key_cmp c.key e ≡ Less))
  of_got c has = (are.exact c).0 (reads_from_has got c are.ascending has)

  pub apart : (m n : CellData) → Has got m → Has others n → key_cmp m.key n.key ≡ Less
  apart m n here there = key_on m.key e n.key (of_got m here).1.1 (of_others n there).1.1

  whole_ascending : IsAscending (got ++ others)
  whole_ascending =
      ascending_join got others are.ascending (ascending_within e high (cells_within low high all) (ascending_within low high all sorted)) (λ m n here there. below_from_order m n (by_key (apart m n here there)))

  pub whole : AreRows all low high (got ++ others)
  whole = record {
    ascending = whole_ascending;
    exact = λ c. (
      λ r. elim (has_append got others c (has_from_reads (got ++ others) c r)) [
        | inl here ↦ (let z = of_got c here in (z.0, (z.1.0, lesser c.key z.1.1)))
        | inr there ↦ (let z = of_others c there in (reads_from_has all c sorted z.0, (z.1.0, z.1.2)))
      ],
      λ z. reads_from_has (got ++ others) c whole_ascending (elim (keys_by c.key e) as (λ _. Has (got ++ others) c) [
        | lower l ↦ has_left got others c (has_from_reads got c ((are.exact c).1 (z.0, (z.1.0, l))))
        | equal q ↦ has_right got others c (to_others c (has_from_reads all c z.0) z.1.0 (λ l. key_itself e (subst (λ (k : List ℕ). key_cmp k e ≡ Less) q l)) z.1.1)
        | higher l ↦ has_right got others c (to_others c (has_from_reads all c z.0) z.1.0 (λ m. key_both c.key e m l) z.1.1)
      ]),
    );
  }

-- The first cells of a range that ends at or before another, up to a row: all of them where the ranges are one and fewer rows are there than were wanted.
module _ (all : List CellData) (sorted : IsAscending all) (low : List ℕ) (high end : Option (List ℕ)) (rows : List CellData) (are : AreRows all low end rows) (lesser : (k : List ℕ) → IsBeforeEnd k end → IsBeforeEnd k high)
    (most count : ℕ) (cells : List CellData) (front : AreFrontRows rows most cells count) (flag : Bool) (complete : flag ≡ true → (end ≡ high) × (count < most)) (some : flag ≡ false → 0 < length cells) where
  first_all : flag ≡ true → AreFirstRows all low high cells flag
  first_all is =
      let c = complete is in
      let same : cells ≡ rows = elim front.ended as (λ _. cells ≡ rows) [
        | inl e ↦ front.front ∙ take_all (length cells) rows (omega arith)
        | inr e ↦ absurd (let m = e.1 in let l = c.1 in omega arith)
      ] in
      record {
        others = [];
        rows = subst (λ (l : List CellData). AreRows all low high l) (sym (append-nil cells)) (subst (λ (l : List CellData). AreRows all low high l) (sym same) (subst (λ (h : Option (List ℕ)). AreRows all low h rows) c.0 are));
        apart = λ m n here there. absurd there;
        all = λ e. refl;
        some = λ e. absurd (let f = sym is ∙ e in cc);
      }

  first_some : flag ≡ false → AreFirstRows all low high cells flag
  first_some is =
      let n = length cells in
      let more : 0 < n = some is in
      let last = key_at rows (n - 1) in
      let cut : AreRows all low (Some (next_key last)) (take n rows) = first_to all low end rows n are front.within (λ less. elim front.ended [ inl e ↦ absurd (omega arith) | inr e ↦ e.0 ]) more in
      let part : AreRows all low (Some (next_key last)) cells = subst (λ (l : List CellData). AreRows all low (Some (next_key last)) l) (sym front.front) cut in
      let before : IsBeforeEnd last end = (last_within more).1 in
      let under : (k : List ℕ) → key_cmp k (next_key last) ≡ Less → IsBeforeEnd k high = λ k less. lesser k (before_up k last end (λ l. less_next k last less l) before) in
      record {
        others = others all sorted low high (next_key last) cells part under;
        rows = whole all sorted low high (next_key last) cells part under;
        apart = apart all sorted low high (next_key last) cells part under;
        all = λ e. absurd (let f = sym is ∙ e in cc);
        some = λ e. more;
      }
    where
      last_within : 0 < length cells → (key_cmp (key_at rows (length cells - 1)) low ≡ Less → ⊥) × IsBeforeEnd (key_at rows (length cells - 1)) end
      last_within more = key_in_rows all low end rows are (length cells - 1) (let w = front.within in omega arith)

  pub first_rows_are : AreFirstRows all low high cells flag
  first_rows_are = by flag refl
    where
      by : (b : Bool) → flag ≡ b → AreFirstRows all low high cells flag
      by true e = first_all e
      by false e = first_some e
