-- Cells that are put into an index's region: marks, what closes them, and repairs.
use Rattle.std.proofs.Common.{◌≡◌, ℕ, ◌<◌, Bool, true, false, Some, List, ◌++◌, ◌∙◌, subst, inl, inr}
use Rattle.std.specs.Prelude.{is_some}
use Rattle.std.proofs.lemmas.Bool.{cases_eq}
use Rattle.px_values.specs.declared.row.Value.{Value}
use Rattle.px_values.specs.declared.change.What.{What}
use Rattle.px_values.specs.declared.name.TableId.{TableId}
use Rattle.px_trail.specs.declared.entry.Entry.{Entry}
use Rattle.px_cells.specs.CellData.{CellData}
use Rattle.px_cells.specs.Order.{ReadsSame}
use Rattle.px_trail.specs.Trail.{Base, last_of}
use Rattle.px_trail.specs.Batches.{Batch, batch_of, change_of, has}
use Rattle.px_world.specs.World.{horizon, st, is_undecided}
use Rattle.px_world.specs.Events.{Mark, Verify, Fix, set_stamp, stands, due}
use Rattle.px_world.proofs.Steps.{set_stamp-same, set_stamp-other}
use Rattle.px_world.specs.IndexCells.{mark_cells, close_cells, fix_cells, Moves}
use Rattle.px_forms.specs.Indexes.{shape_at, view_at, cells_if}
use Rattle.px_indexed.specs.Worlds.{world_at, change_event, row_event, history_at, Indexed}
use Rattle.px_indexed.specs.Kept.{AreIndexCells, IndexKept, RowsKept}
use Rattle.px_world.proofs.IndexCells.{moves_kept}
use Rattle.px_indexed.proofs.IndexSteps.{mark_moves, verify_moves, fix_moves}
use Rattle.px_values.specs.States.{Shape as RowShape}
use Rattle.px_forms.proofs.Views.{lawful_at}
use Rattle.px_indexed.proofs.Regions.{cells_put}

module _ (sh : RowShape) (b : Base) (es : List Entry) (tid : TableId) (raised : ℕ) where
  abbrev t : ℕ
  t = tid.0

  -- ---- cells are put into an index's region

  module _ (k : RowsKept sh b es t raised) (x : Indexed) (g : IndexKept sh b es t raised x) (batch new : List CellData) (put : ReadsSame new (batch ++ x.cells)) (low : AreIndexCells x.form (last_of b t es) batch) where
    -- the batch's marks
    module _ (s : ℕ) (y : Batch) (is : batch_of t s es ≡ Some y) (first : y.phase ≡ 0) (waits : x.waits s ≡ true) (born : x.birth < s) (waits' : ℕ → Bool)
        (unlisted : (u : ℕ) → waits' u ≡ set_stamp s false x.waits u)
        (reads : (r : List Value) → view_at x.form r batch ≡ cells_if (is_some (change_of y.changes r)) (mark_cells (shape_at sh x.form r) s ((history_at sh b es t r).old s) ((history_at sh b es t r).new s))) where
      abbrev marked : Indexed
      marked = record x { cells = new; waits = waits' }

      pub marked_moves : (r : List Value) → Moves (shape_at sh x.form r) (change_event (Mark s) (change_of y.changes r)) (world_at sh b es t raised x r) (world_at sh b es t raised marked r)
      marked_moves r = mark_moves sh b es tid raised x r (k.base r) (k.tied r) s y is (k.later s y is) (k.quiet s y is first r) waits born batch new waits' put (reads r) unlisted

      pub index_marked : IndexKept sh b es t raised marked
      index_marked = record {
        form = g.form;
        birth = g.birth;
        cells = cells_put x.form (last_of b t es) batch x.cells new put low g.cells;
        marked = λ u z q p l. unlisted u ∙ elim (cases_eq s u) [
          | inl a ↦ subst (λ (v : ℕ). set_stamp s false x.waits v ≡ false) a (set_stamp-same s false x.waits)
          | inr a ↦ set_stamp-other s false x.waits u a ∙ g.marked u z q p l
        ];
        apart = g.apart;
        kept = λ r. moves_kept (shape_at sh x.form r) (lawful_at sh x.form r g.form) (change_event (Mark s) (change_of y.changes r)) (world_at sh b es t raised x r) (world_at sh b es t raised marked r) (marked_moves r) (g.kept r);
      }

    -- the cells that close the marks of these rows
    module _ (s : ℕ) (y : Batch) (is : batch_of t s es ≡ Some y) (rows : List (List Value)) (some : (r : List Value) → has rows r ≡ true → (c : What) × (change_of y.changes r ≡ Some c)) (whole : (r : List Value) → has rows r ≡ true → has y.written r ≡ true) (running : y.ended ≡ false) (born : x.birth < s)
        (reads : (r : List Value) → view_at x.form r batch ≡ cells_if (has rows r) (close_cells (shape_at sh x.form r) s ((history_at sh b es t r).old s) ((history_at sh b es t r).new s))) where
      abbrev verified : Indexed
      verified = record x { cells = new }

      pub verified_moves : (r : List Value) → Moves (shape_at sh x.form r) (row_event (Verify s) (has rows r)) (world_at sh b es t raised x r) (world_at sh b es t raised verified r)
      verified_moves r = verify_moves sh b es tid raised x r (k.base r) (k.tied r) s y is (k.later s y is) rows (some r) (whole r) running born batch new put (reads r)

      pub index_verified : IndexKept sh b es t raised verified
      index_verified = record {
        form = g.form;
        birth = g.birth;
        cells = cells_put x.form (last_of b t es) batch x.cells new put low g.cells;
        marked = g.marked;
        apart = g.apart;
        kept = λ r. moves_kept (shape_at sh x.form r) (lawful_at sh x.form r g.form) (row_event (Verify s) (has rows r)) (world_at sh b es t raised x r) (world_at sh b es t raised verified r) (verified_moves r) (g.kept r);
      }

    -- a repair
    module _ (key : List ℕ) (s : ℕ) (may : (r : List Value) → x.form.owns r key ≡ true → stands (world_at sh b es t raised x r) key s × (is_undecided ((history_at sh b es t r).fate s) ≡ false))
        (reads : (r : List Value) → view_at x.form r batch ≡ cells_if (x.form.owns r key) (fix_cells (shape_at sh x.form r) (horizon (world_at sh b es t raised x r)) (st (world_at sh b es t raised x r) (horizon (world_at sh b es t raised x r))) key s (due (shape_at sh x.form r) (world_at sh b es t raised x r) key s))) where
      abbrev repaired : Indexed
      repaired = record x { cells = new }

      pub repaired_moves : (r : List Value) → Moves (shape_at sh x.form r) (row_event (Fix key s) (x.form.owns r key)) (world_at sh b es t raised x r) (world_at sh b es t raised repaired r)
      repaired_moves r = fix_moves sh b es tid raised x r (k.base r) g.form key s batch new put (may r) (reads r)

      pub index_repaired : IndexKept sh b es t raised repaired
      index_repaired = record {
        form = g.form;
        birth = g.birth;
        cells = cells_put x.form (last_of b t es) batch x.cells new put low g.cells;
        marked = g.marked;
        apart = g.apart;
        kept = λ r. moves_kept (shape_at sh x.form r) (lawful_at sh x.form r g.form) (row_event (Fix key s) (x.form.owns r key)) (world_at sh b es t raised x r) (world_at sh b es t raised repaired r) (repaired_moves r) (g.kept r);
      }
