-- The cells of regions: what is said of each of them goes through batches and compactions.
use Rattle.std.proofs.Common.{◌≡◌, ℕ, ◌<◌, ◌≤◌, false, ◌⊎◌, Option, Some, None, List, ◌++◌, refl, ap, sym, ◌∙◌, inl, inr, arith}
use Rattle.std.specs.Prelude.{is_some}
use Rattle.px_cells.specs.declared.kind.CellKind.{CellKind}
use Rattle.px_cells.specs.declared.kind.CellKind.TheVariants.{DeleteColumn}
use Rattle.px_cells.specs.CellData.{CellData}
use Rattle.px_cells.specs.Contents.{cell_of, or_else, value_at}
use Rattle.px_cells.specs.Order.{ReadsSame}
use Rattle.px_cells.specs.Sight.{IsPlainRegion}
use Rattle.px_cells.proofs.Contents.{value_from_reads, values_put}
use Rattle.px_forms.specs.Indexes.{IndexForm}
use Rattle.px_forms.specs.Rows.{DataForm}
use Rattle.px_indexed.specs.Kept.{AreIndexCells, AreRowCells}

some_or_none : {A : Type 0} (o : Option A) → (o ≡ None) ⊎ ((v : A) × (o ≡ Some v))
some_or_none None = inl refl
some_or_none (Some v) = inr (v, refl)

-- what stands after a batch stood before it, or is of the batch
pub put_from : (batch old new : List CellData) → ReadsSame new (batch ++ old) → (k : List ℕ) (q s : ℕ) (d : CellKind) (v : List ℕ) → value_at new k q s d ≡ Some v → (value_at batch k q s d ≡ Some v) ⊎ (value_at old k q s d ≡ Some v)
put_from batch old new put k q s d v e = by (value_at batch k q s d) refl
  where
    by : (o : Option (List ℕ)) → value_at batch k q s d ≡ o → (value_at batch k q s d ≡ Some v) ⊎ (value_at old k q s d ≡ Some v)
    by (Some u) z = inl (z ∙ (ap (λ o. or_else o (value_at old k q s d)) (sym z) ∙ (ap (λ f. f k q s d) (sym (values_put batch old new put)) ∙ e)))
    by None z = inr (ap (λ o. or_else o (value_at old k q s d)) (sym z) ∙ (ap (λ f. f k q s d) (sym (values_put batch old new put)) ∙ e))

pub cells_put : (f : IndexForm) (last : ℕ) (batch old new : List CellData) → ReadsSame new (batch ++ old) → AreIndexCells f last batch → AreIndexCells f last old → AreIndexCells f last new
cells_put f last batch old new put a c = record {
  each = λ x v. elim (put_from batch old new put x.key x.qualifier x.stamp x.kind x.value v) [ inl h ↦ a.each x h | inr h ↦ c.each x h ];
}

pub row_cells_put : (f : DataForm) (batch old new : List CellData) → ReadsSame new (batch ++ old) → AreRowCells f batch → AreRowCells f old → AreRowCells f new
row_cells_put f batch old new put a c = record {
  each = λ x v. elim (put_from batch old new put x.key x.qualifier x.stamp x.kind x.value v) [ inl h ↦ a.each x h | inr h ↦ c.each x h ];
}

pub cells_on : (f : IndexForm) (l l' : ℕ) (cells : List CellData) → l ≤ l' → AreIndexCells f l cells → AreIndexCells f l' cells
cells_on f l l' cells up a = record {
  each = λ x v. (let z = a.each x v in record { stamp = (let i = z.stamp in omega arith); owner = z.owner; placed = z.placed; kind = z.kind; status = z.status });
}

pub none_above : (f : IndexForm) (last : ℕ) (cells : List CellData) → AreIndexCells f last cells → (k : List ℕ) (q s : ℕ) (d : CellKind) → last < s → value_at cells k q s d ≡ None
none_above f last cells a k q s d l = elim (some_or_none (value_at cells k q s d)) [
  | inl n ↦ n
  | inr v ↦ absurd (let i = (a.each (cell_of k q s d v.0) v.1).stamp in omega arith)
]

-- the status column has no DeleteColumn
pub bare_at : (f : IndexForm) (last : ℕ) (cells : List CellData) → AreIndexCells f last cells → (k : List ℕ) (s : ℕ) → is_some (value_at cells k 1 s DeleteColumn) ≡ false
bare_at f last cells a k s = elim (some_or_none (value_at cells k 1 s DeleteColumn)) [
  | inl n ↦ ap is_some n
  | inr v ↦ absurd ((a.each (cell_of k 1 s DeleteColumn v.0) v.1).status refl refl)
]

pub index_plain : (f : IndexForm) (last : ℕ) (cells : List CellData) → AreIndexCells f last cells → IsPlainRegion cells
index_plain f last cells a = record {
  placed = λ c h. (a.each c (value_from_reads cells c.key c.qualifier c.stamp c.kind c.value h)).placed;
  no_delete = λ c h. (a.each c (value_from_reads cells c.key c.qualifier c.stamp c.kind c.value h)).kind;
}

pub rows_plain : (f : DataForm) (cells : List CellData) → AreRowCells f cells → IsPlainRegion cells
rows_plain f cells a = record {
  placed = λ c h. (a.each c (value_from_reads cells c.key c.qualifier c.stamp c.kind c.value h)).placed;
  no_delete = λ c h. (a.each c (value_from_reads cells c.key c.qualifier c.stamp c.kind c.value h)).kind;
}
