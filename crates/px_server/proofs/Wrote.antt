-- The rows of a batch are handed to the region of its table's rows, and an entry tells it.
use Rattle.std.proofs.Common.{◌≡◌, ◌<◌, ℕ, List, [], ◌∷◌, ◌++◌, length, refl, sym, ap, subst, ◌∙◌, arith}
use Rattle.px_outside.specs.declared.disk.Disk.{Ghosts}
use Rattle.px_cells.specs.CellData.{CellData}
use Rattle.px_cells.specs.Order.{ReadsSame}
use Rattle.px_values.specs.declared.row.Value.{Value}
use Rattle.px_values.specs.declared.change.Change.{Change}
use Rattle.px_trail.specs.declared.entry.Act.{Act}
use Rattle.px_trail.specs.declared.entry.Act.TheVariants.{Wrote}
use Rattle.px_trail.specs.declared.entry.Entry.{Entry}
use Rattle.px_trail.specs.Batches.{has, rows_of}
use Rattle.px_trail.specs.Legal.{Follows, IsWritable, MayCome}
use Rattle.px_trail.specs.Trail.{Base}
use Rattle.px_forms.specs.Indexes.{IndexForm}
use Rattle.px_indexed.specs.Worlds.{row_event}
use Rattle.px_world.specs.Events.{Write}
use Rattle.px_forms.specs.Several.{cells_for}
use Rattle.px_batchcells.proofs.RowsPut.{writes_some}
use Rattle.px_groupworld.specs.Group.{GroupData, TableForm}
use Rattle.px_groupworld.specs.Steps.{wrote_data}
use Rattle.px_openbatches.specs.Made.{RowCells, picked_cells}
use Rattle.px_openbatches.specs.Opens.{IsBatchReady}
use Rattle.px_openbatches.specs.Pending.{HeldBatch, IsHeldBatch, held_wrote}
use Rattle.px_openbatches.proofs.Hands.{can_write}
use Rattle.px_phases.specs.Batch.{IsHeldAs}
use Rattle.px_phases.proofs.Held.{puts_handed}
use Rattle.px_region.specs.Region.{read_of}
use Rattle.px_tablereads.specs.Told.{AreTold}
use Rattle.px_tablereads.proofs.Tells.{told_wrote}
use Rattle.px_tablesteps.proofs.Lists.{held_at}
use Rattle.px_tablesteps.proofs.Steps.{table_wrote}
use Rattle.px_group.specs.Group.{IsInPhase, IsRightGroup, IsShownBy, IsTallied, form_of}
use Rattle.px_group.specs.declared.group.Group.{Group}
use Rattle.px_group.specs.declared.group.Phase.{Phase}
use Rattle.px_group.specs.declared.group.Phase.TheVariants.{Verifying}
use Rattle.px_batching.specs.Known.{own_of}
use Rattle.px_batching.specs.Steps.{HandsPuts, WrotePuts}
use Rattle.px_batching.proofs.May.{stamp_is}
use Rattle.px_batching.proofs.Pairs.{tied_at, to_tied}
use Rattle.px_batching.proofs.Shown.{wrote_shown, wrote_steps}
use Rattle.px_server.proofs.Built.{IsUnbased, built_told, run_row}
use Rattle.px_server.proofs.Handed.{RowsGo, RowsShow, RowsThen}
use Rattle.px_server.proofs.Regions.{ToRows}

module _ {D : Type 0} (d : Ghosts D) (b : Base) (es : List Entry) (g g' : Group) (old new : D) (m : ℕ) (phase : Phase) (o : HandsPuts d g g' old new m phase) (e : Entry) (may : MayCome b es e) (act : e.act ≡ Wrote g.table.id o.batch.batch.stamp (rows_of o.batch.batch.changes)) where
  abbrev es' : List Entry
  es' = es ++ e ∷ []

  abbrev rows : List (List Value)
  rows = rows_of o.batch.batch.changes

  module _ (index : ℕ → IndexForm) (v : GroupData) (hs : List HeldBatch) (k : IsTallied b es g hs) (shown : IsShownBy b index es g v hs) (cells : List CellData) (put : ReadsSame cells (o.cells ++ read_of g.rows)) where
    abbrev form : TableForm
    form = form_of b index g

    abbrev h : HeldBatch
    h = own_of m hs

    tie : (m < length hs) × (IsHeldAs o.batch.batch h × IsInPhase es g.table.id.0 o.batch h)
    tie = tied_at es g.table.id.0 g.batches.items hs (to_tied es g.table.id.0 g.batches.items hs k.batches k.phases) m o.batch o.step.step.batch

    own_act : e.act ≡ Wrote g.table.id h.stamp rows
    own_act = act ∙ ap (λ (n : ℕ). Wrote g.table.id n rows) (sym (stamp_is b es g hs k m o.batch o.step.step.batch))

    puts : ReadsSame o.cells (cells_for (picked_cells (λ (q : RowCells). q.puts) h.cells) rows)
    puts = subst (λ (cs : List Change). ReadsSame o.cells (cells_for (picked_cells (λ (q : RowCells). q.puts) h.cells) (rows_of cs))) tie.1.0.changes (puts_handed o.batch.batch h tie.1.0 o.parts o.kept o.cells o.handed)

    before : ReadsSame cells (o.cells ++ v.cells)
    before = subst (λ (q : List CellData). ReadsSame cells (o.cells ++ q)) (sym shown.rows) put

    -- the table's data after it
    rows_then : RowsThen form es' v cells
    rows_then = record {
      table_data = wrote_data cells v;
      kept = (table_wrote form es v hs shown.kept e may m tie.0 rows own_act o.cells cells puts before).kept.group;
      high = omega arith;
      low = refl;
      cells = refl;
      indexes = refl;
    }

    held : IsHeldBatch es g.table.id.0 h
    held = held_at (IsHeldBatch es g.table.id.0) hs m shown.kept.opens.held.each tie.0

    ready : IsBatchReady form es v.indexes h
    ready = held_at (IsBatchReady form es v.indexes) hs m shown.kept.opens.ready tie.0

    writable : IsWritable es e.seat g.table.id.0 h.stamp rows
    unfolding Follows
    writable = subst (λ (a : Act). Follows b es e.seat e.calls a) own_act may.follows

    -- a repair may rest on it
    told_then : AreTold form es v → AreTold form es' (wrote_data cells v)
    told_then told =
        told_wrote form es v shown.kept.group (writes_some g.table) told e may h.stamp rows own_act writable.batch writable.is o.cells cells (can_write form es v shown.kept.group h held ready e.seat rows writable o.cells puts) before

  pub wrote_goes : RowsGo b es es' g o.cells
  wrote_goes index v hs k shown told cells put = rows_then index v hs k shown cells put

pub wrote_to : {D : Type 0} (d : Ghosts D) (g g' : Group) (old new : D) (m : ℕ) (phase : Phase) (o : HandsPuts d g g' old new m phase) → ToRows g g' o.region
wrote_to d g g' old new m phase o = record { table = o.step.step.table; points = o.step.step.points; rows = o.step.rows; indexes = ap (λ q. q.items) o.step.indexes }

-- where all calls succeeded
module _ {D : Type 0} (d : Ghosts D) (b : Base) (es : List Entry) (g g' : Group) (old new : D) (m : ℕ) (right : IsRightGroup g) (w : WrotePuts d g g' old new m) (e : Entry) (may : MayCome b es e) (act : e.act ≡ Wrote g.table.id w.hands.batch.batch.stamp (rows_of w.hands.batch.batch.changes)) where
  pub wrote_shows : RowsShow b es (es ++ e ∷ []) g g' (λ hs. held_wrote (own_of m hs).stamp (rows_of w.hands.batch.batch.changes) hs) w.hands.region
  unfolding rows_then
  wrote_shows index v hs k shown told built = record {
    then = rows_then d b es g g' old new m Verifying w.hands e may act index v hs k shown (read_of w.hands.region) w.written.reads;
    shown = wrote_shown b index es g g' v hs right k shown m d old new w e may (own_act d b es g g' old new m Verifying w.hands e may act index v hs k shown (read_of w.hands.region) w.written.reads);
    told = told_then d b es g g' old new m Verifying w.hands e may act index v hs k shown (read_of w.hands.region) w.written.reads told.told;
    built = built_told (form_of b index g) es v shown.kept.group (λ i r. row_event (Write (own_of m hs).stamp) (has (rows_of w.hands.batch.batch.changes) r)) e (wrote_data (read_of w.hands.region) v)
        (wrote_steps b index es g g' v hs right k shown m d old new w e may (own_act d b es g g' old new m Verifying w.hands e may act index v hs k shown (read_of w.hands.region) w.written.reads)).does
        (λ i r. run_row (Write (own_of m hs).stamp) tt (has (rows_of w.hands.batch.batch.changes) r)) (λ i l. refl) (λ n. subst (IsUnbased n) (sym act) tt) built;
  }
