-- The changes of open batches fit their table, and so do the states that a new batch counts on.
use Rattle.std.proofs.Common.{◌≡◌, ℕ, Bool, true, false, Option, Some, None, List, [], ◌∷◌, refl, ap, ◌∙◌}
use Rattle.std.specs.List.{AllByRecursion}
use Rattle.px_cells.specs.Contents.{value_at}
use Rattle.px_forms.specs.Indexes.{IndexForm}
use Rattle.px_groupworld.specs.Group.{GroupData, GroupKept, table_form}
use Rattle.px_groupworld.proofs.Entries.{rows_of_group}
use Rattle.px_history.specs.Rows.{row_as, row_in}
use Rattle.px_history.proofs.Changes.{all_listed}
use Rattle.px_indexrow.specs.Form.{FitsRowState}
use Rattle.px_indexrow.proofs.StatesFit.{apply_fits}
use Rattle.px_openbatches.specs.Pending.{HeldBatch, HeldKept, IsHeldBatch, after_pending, applied_if, change_left, left_as}
use Rattle.px_rows.specs.Keys.{IsRightTable}
use Rattle.px_rows.specs.Spelled.{FitsTable, row_form}
use Rattle.px_tables.specs.declared.table.Table.{Table}
use Rattle.px_trail.specs.Batches.{change_of, has}
use Rattle.px_trail.specs.Trail.{Base, table_shape}
use Rattle.px_trail.specs.States.{begun}
use Rattle.px_trail.specs.declared.entry.Entry.{Entry}
use Rattle.px_values.specs.States.{RowState}
use Rattle.px_values.specs.declared.change.What.{What}
use Rattle.px_values.specs.declared.name.TableId.{TableId}
use Rattle.px_values.specs.declared.row.Value.{Value}
use Rattle.px_batchcells.specs.Typed.{AreTyped}
use Rattle.px_batchcells.proofs.RowsTyped.{spelled_typed}

module _ (t : Table) (b : Base) (id : TableId) (index : ℕ → IndexForm) (es : List Entry) (v : GroupData) (k : GroupKept (table_form b id index (row_form t)) es v) where
  -- what an open batch does to a row
  pub change_typed : (h : HeldBatch) → IsHeldBatch es id.0 h → (r : List Value) (w : What) → change_of h.changes r ≡ Some w → FitsTable t r w
  change_typed h is r w e =
      all_listed (λ d. FitsTable t r d.what) (record { stamp = h.stamp; what = w }) (begun id.0 r es) (k.told.fits r)
      (((rows_of_group (table_form b id index (row_form t)) es v k).tied r).listed h.stamp (record { what = w; written = has is.batch.written r; ended = is.batch.ended })
      (ap (λ o. row_in o r) is.is ∙ ap (λ o. row_as o (has is.batch.written r) is.batch.ended) (ap (λ cs. change_of cs r) is.changes ∙ e)))

module _ (t : Table) (right : IsRightTable t) (b : Base) (id : TableId) (index : ℕ → IndexForm) (es : List Entry) (v : GroupData) (k : GroupKept (table_form b id index (row_form t)) es v) where
  -- the state after what a batch is still to write
  left_typed : (h : HeldBatch) → IsHeldBatch es id.0 h → (r : List Value) (o : RowState) → FitsRowState t o → FitsRowState t (applied_if (table_shape t) r o (change_left h r))
  left_typed h is r o s = by (change_of h.changes r) refl (has h.written r)
    where
      by : (c : Option What) → change_of h.changes r ≡ c → (x : Bool) → FitsRowState t (applied_if (table_shape t) r o (left_as c x))
      by None e x = s
      by (Some w) e true = s
      by (Some w) e false = apply_fits t r o w right (change_typed t b id index es v k h is r w e) s

  after_typed : (r : List Value) (hs : List HeldBatch) → AllByRecursion (IsHeldBatch es id.0) hs → (o : RowState) → FitsRowState t o → FitsRowState t (after_pending (table_shape t) r o hs)
  unfolding after_pending
  after_typed r [] a o s = s
  after_typed r (h ∷ hs) a o s = after_typed r hs a.1 (applied_if (table_shape t) r o (change_left h r)) (left_typed h a.0 r o s)

  pub expected_typed : AreTyped t v.low (b.state id.0) → (hs : List HeldBatch) → HeldKept b es id.0 hs → AreTyped t v.low (λ r p. after_pending (table_shape t) r ((row_form t).spelled (value_at v.cells) r p) hs)
  expected_typed base hs held = record { each = λ r p l. after_typed r hs held.each ((row_form t).spelled (value_at v.cells) r p) ((spelled_typed t right b id index es v k base).each r p l) }
