-- What is due of a version of an index, by the trail and by what the index shows of its key.
use Rattle.std.specs.Prelude.{◌≡◌, ◌≢◌, ℕ, suc, ◌≤◌, Bool, false, cond, ◌||◌, max, nat_eq, nat_lt, List, length, Option, None, Some, slice_get}
use Rattle.std.specs.Cmp.Lexicographic.{pointwise}
use Rattle.px_calls.specs.declared.query.Doubt.{Doubt}
use Rattle.px_calls.specs.declared.query.Point.{Point}
use Rattle.px_calls.specs.declared.query.Verdict.{Verdict}
use Rattle.px_calls.specs.declared.query.Verdict.TheVariants.{Leave, Verify, Retire, Erase}
use Rattle.px_cells.specs.Contents.{value_at}
use Rattle.px_forms.specs.Indexes.{IndexForm}
use Rattle.px_group.specs.Group.{IsShownBy, IsTallied, form_of}
use Rattle.px_group.specs.declared.group.Group.{Group}
use Rattle.px_group.specs.declared.group.IndexRegion.{IndexRegion}
use Rattle.px_groupworld.specs.Group.{GroupData, shape_in, world_in}
use Rattle.px_indexrow.specs.Form.{included_at, included_bytes, key_of_state, row_of_index}
use Rattle.px_indexrow.specs.Verdicts.{verdict_of}
use Rattle.px_indexrow.specs.declared.doubt.Repair.{Repair}
use Rattle.px_indexrow.specs.declared.doubt.Repair.TheVariants as repairs
use Rattle.px_looks.specs.Found.{at_key}
use Rattle.px_looks.specs.Versions.{value_seen}
use Rattle.px_openbatches.specs.Pending.{HeldBatch}
use Rattle.px_region.specs.Region.{read_of}
use Rattle.px_shown.specs.Told.{is_key_in}
use Rattle.px_trail.specs.Batches.{Batch, batch_of, has, unwritten}
use Rattle.px_trail.specs.States.{is_row_written, state_of}
use Rattle.px_trail.specs.Trail.{Base}
use Rattle.px_trail.specs.declared.entry.Entry.{Entry}
use Rattle.px_values.specs.States.{RowState}
use Rattle.px_values.specs.declared.row.Value.{Value}
use Rattle.px_world.specs.Events.{due}
use Rattle.px_world.specs.Shape.{all_below, same_cell}
use Rattle.px_reading.specs.Doubts.{IsToldBy, horizon_at, version_seen}
use Rattle.px_pointreads.specs.Points.{IsPartAt}

-- 1. What it hangs on

-- the batch is still to write the row
abbrev pub is_unwritten_in : Option Batch → List Value → Bool
is_unwritten_in None r = false
is_unwritten_in (Some x) r = has (unwritten x) r

-- a change of the row with this stamp was written, before the first entry or since
abbrev pub is_changed_at : Base → List Entry → ℕ → List Value → ℕ → Bool
is_changed_at b es t r s = b.changed t r s || is_row_written es t r s

-- the key is the one of this state of the row
abbrev pub is_state_key : Group → IndexRegion → List Value → RowState → List ℕ → Bool
is_state_key g x r state k = is_key_in k (key_of_state g.table x.index r state)

-- of the key the included values of this state are seen, at the horizon of table and index
abbrev pub has_state_values : Group → IndexRegion → List ℕ → RowState → Bool
has_state_values g x k state = all_below (length x.index.included) (λ c. same_cell (pointwise nat_eq) (value_seen (at_key (value_at (read_of x.region)) k) (suc (suc (included_at x.index c))) (horizon_at g x)) (included_bytes g.table x.index state c))

-- up to where the index's own cells are forgotten
abbrev pub floor_at : IndexRegion → ℕ
floor_at x = max x.index.birth x.region.horizon

-- 2. What is due

-- Above the horizon the change at the stamp decides. Where it was written the version is verified at the row's new key and retired at another;
-- where it never was, the version is erased.
abbrev pub due_by_change : Bool → Bool → Verdict
due_by_change written keyed = cond written (cond keyed Verify Retire) Erase

-- At or below it the row's state there decides. At another key the version is retired, and with the state's values it is verified; with others
-- it is erased where it is above the floor, and at or below the floor it is verified, with the state's values.
abbrev pub due_by_state : Bool → Bool → Bool → Verdict
due_by_state keyed valued above = cond keyed (cond valued Verify (cond above Erase Verify)) Retire

-- While the change is in flight, nothing is. All else by the trail's states of the row.
abbrev pub due_of_row : Base → List Entry → Group → IndexRegion → List Value → List ℕ → ℕ → Verdict
due_of_row b es g x r k s =
    cond (is_unwritten_in (batch_of g.table.id.0 s es) r) Leave
    (cond (nat_lt (horizon_at g x) s)
    (due_by_change (is_changed_at b es g.table.id.0 r s) (is_state_key g x r (state_of b es g.table.id.0 r s) k))
    (due_by_state (is_state_key g x r (state_of b es g.table.id.0 r (horizon_at g x)) k) (has_state_values g x k (state_of b es g.table.id.0 r (horizon_at g x))) (nat_lt (floor_at x) s)))

-- of the version of a stamp at a key of the index: by the row that the key holds
abbrev pub verdict_due : Base → List Entry → Group → IndexRegion → List ℕ → ℕ → Verdict
verdict_due b es g x k s = due_of_row b es g x (row_of_index g.table x.index k) k s

-- 3. What is answered

-- a repair, as a doubt names it
abbrev pub verdict_as : Repair → Verdict
verdict_as repairs.Leave = Leave
verdict_as repairs.Verify = Verify
verdict_as repairs.Retire = Retire
verdict_as repairs.Erase = Erase

-- above the horizon, or a version is seen of the key
abbrev pub IsSeenBelow : Group → IndexRegion → List ℕ → ℕ → Type 0
IsSeenBelow g x k s = s ≤ horizon_at g x → version_seen g x k s ≢ None

-- in each world that the index and the row of the key are of, it is what is due there (px_world)
abbrev pub IsDueInWorlds : Group → ℕ → IndexRegion → List ℕ → ℕ → Repair → Type 0
IsDueInWorlds g place x k s repair = (b : Base) (index : ℕ → IndexForm) (es : List Entry) (v : GroupData) (hs : List HeldBatch) → IsTallied b es g hs → IsShownBy b index es g v hs → IsToldBy b index es g v → IsSeenBelow g x k s
    → verdict_of repair ≡ due (shape_in (form_of b index g) v place (row_of_index g.table x.index k)) (world_in (form_of b index g) es v place (row_of_index g.table x.index k)) k s

-- the same of a doubt, by the index that it names
pub record IsDueOf (g : Group) (p : Point) (d : Doubt) (repair : Repair) : Type 0 where
  pub place : ℕ
  pub index : IndexRegion
  pub at : slice_get g.indexes.items place ≡ Some index
  pub part : IsPartAt p d.index index
  pub due_there : IsDueInWorlds g place index d.key d.stamp repair
