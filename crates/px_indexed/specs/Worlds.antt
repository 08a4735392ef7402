-- The world of a row and an index, as the trail and the index's cells tell it.
use Rattle.std.specs.Prelude.{ℕ, Bool, false, true, not, ◌&&◌, List, Option, Some, None}
use Rattle.px_cells.specs.CellData.{CellData}
use Rattle.px_values.specs.declared.row.Value.{Value}
use Rattle.px_values.specs.declared.change.What.{What}
use Rattle.px_values.specs.States.{RowState, Shape as RowShape}
use Rattle.px_trail.specs.declared.entry.Entry.{Entry}
use Rattle.px_trail.specs.Trail.{Base}
use Rattle.px_world.specs.World.{World, is_begun}
use Rattle.px_world.specs.Events.{Event, Begin}
use Rattle.px_world.specs.IndexCells.{IndexCells}
use Rattle.px_history.specs.History.{History}
use Rattle.px_history.specs.Rows.{base_history, history_from}
use Rattle.px_forms.specs.Indexes.{IndexForm, view_at}

-- the changes of a row, as the trail tells them of a table with rows of this shape
abbrev pub history_at : RowShape → Base → List Entry → ℕ → List Value → History RowState
history_at sh b es t r = history_from sh t r (base_history b t r) es

-- the numbers of an index, and the table's horizon
pub record Times : Type 0 where
  pub birth : ℕ
  pub raised : ℕ
  pub kept : ℕ
  pub floor : ℕ
  pub is_built : Bool

-- a history, which of its changes have marked the index, the index's cells as the row sees them, and the numbers
abbrev pub world_of_history : {K S X : Type 0} → History S → (ℕ → Bool) → IndexCells K X → Times → World K S X
world_of_history h marked v x =
    record {
      base = h.base;
      fate = h.fate;
      is_marked = marked;
      is_ended = h.is_ended;
      old = h.old;
      new = h.new;
      status = v.status;
      put = v.put;
      del = v.del;
      fam = v.fam;
      ver = v.ver;
      birth = x.birth;
      raised = x.raised;
      kept = x.kept;
      floor = x.floor;
      is_built = x.is_built;
      is_over = false;
    }

-- One index: its form, the cells of its region, the stamps of the batches that are still to mark it, its birth, up to
-- where the table's rows and its own cells are forgotten, and whether queries may read it.
pub record Indexed : Type 0 where
  pub form : IndexForm
  pub cells : List CellData
  pub waits : ℕ → Bool
  pub birth : ℕ
  pub kept : ℕ
  pub floor : ℕ
  pub is_built : Bool

-- the stamps of the row's changes whose batches have marked the index
abbrev pub marked_by : {S : Type 0} → History S → (ℕ → Bool) → ℕ → Bool
marked_by h waits s = is_begun (h.fate s) && not (waits s)

abbrev pub times_of : Indexed → ℕ → Times
times_of x raised = record { birth = x.birth; raised = raised; kept = x.kept; floor = x.floor; is_built = x.is_built }

-- the world of a row and an index, after these entries, where the table's horizon is `raised`
abbrev pub world_at : RowShape → Base → List Entry → ℕ → ℕ → Indexed → List Value → World (List ℕ) RowState (List ℕ)
world_at sh b es t raised x r = world_of_history (history_at sh b es t r) (marked_by (history_at sh b es t r) x.waits) (view_at x.form r x.cells) (times_of x raised)

-- a batch with this change of the row begins, if it has one
abbrev pub begin_event : ℕ → Option What → Option (Event (List ℕ) What)
begin_event s None = None
begin_event s (Some w) = Some (Begin s w)

-- the event, where the batch changes the row
abbrev pub change_event : Event (List ℕ) What → Option What → Option (Event (List ℕ) What)
change_event e None = None
change_event e (Some w) = Some e

-- the event, where the row is one of those
abbrev pub row_event : Event (List ℕ) What → Bool → Option (Event (List ℕ) What)
row_event e false = None
row_event e true = Some e
