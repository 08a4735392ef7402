-- A batch marks the rows of an index, or all of its indexes are marked.
use Rattle.std.proofs.Common.{◌≡◌, ◌<◌, ℕ, List, ◌++◌, length, get_or, refl, sym, ap, subst, ◌∙◌, arith}
use Rattle.std.proofs.Math.ListN.{set}
use Rattle.std.specs.Prelude.{nat_eq}
use Rattle.px_outside.specs.declared.disk.Disk.{Ghosts}
use Rattle.px_cells.specs.CellData.{CellData}
use Rattle.px_cells.specs.Order.{ReadsSame}
use Rattle.px_trail.specs.declared.entry.Entry.{Entry}
use Rattle.px_trail.specs.Batches.{IsBatchIn, change_of, has}
use Rattle.px_trail.specs.Batches as trail
use Rattle.px_trail.specs.Trail.{Base}
use Rattle.px_region.specs.Region.{read_of}
use Rattle.px_forms.specs.Indexes.{IndexForm}
use Rattle.px_indexed.specs.Worlds.{change_event, row_event}
use Rattle.px_world.specs.Events.{Mark, Verify}
use Rattle.px_groupworld.specs.Group.{GroupData, GroupKept, TableForm, no_part}
use Rattle.px_groupworld.specs.Steps.{at_index, cells_data, gone_on, with_cells}
use Rattle.px_openbatches.specs.Pending.{HeldBatch, to_verify}
use Rattle.px_phases.specs.Batch.{IsHeldAs}
use Rattle.px_phases.proofs.Held.{closes_handed, marks_handed}
use Rattle.px_tablesteps.specs.Kept.{open_of}
use Rattle.px_tablesteps.proofs.Steps.{table_mark, table_verify}
use Rattle.px_tablereads.specs.Told.{AreTold}
use Rattle.px_tablereads.proofs.Tells.{told_same}
use Rattle.px_group.specs.Group.{IsInPhase, IsRightGroup, IsShownBy, IsTallied, as_phase, form_of}
use Rattle.px_group.specs.declared.group.Group.{Group}
use Rattle.px_batching.specs.Known.{held_marked, held_verified, own_of}
use Rattle.px_batching.specs.Steps.{HandsCloses, HandsMarks, WroteCloses, WroteMarks}
use Rattle.px_batching.proofs.May.{closes_at, marks_at}
use Rattle.px_batching.proofs.Pairs.{tied_at, to_tied}
use Rattle.px_batching.proofs.Shown.{closes_shown, closes_steps, marks_shown, marks_steps}
use Rattle.px_server.proofs.Built.{built_step, run_at, run_change_at, same_ids}
use Rattle.px_server.proofs.Handed.{IndexGoes, IndexShows, IndexThen}
use Rattle.px_server.proofs.Regions.{ToIndex}

-- what a repair rests on, where the cells of the rows stay
told_still : (f : TableForm) (es : List Entry) (v w : GroupData) → GroupKept f es v → GroupKept f es w → AreTold f es v → w.low ≡ v.low → w.cells ≡ v.cells → AreTold f es w
told_still f es v w kept then told low cells = told_same f es v kept es w then told low cells (λ r s. refl)

-- ---- marks

module _ {D : Type 0} (d : Ghosts D) (b : Base) (es : List Entry) (g g' : Group) (old new : D) (m : ℕ) (o : HandsMarks d g g' old new m) where
  pub marks_to : ToIndex g g' o.place o.index o.region
  marks_to = record { table = o.step.step.table; points = o.step.step.points; index = o.step.index; rows = o.step.rows; indexes = o.step.indexes }

  module _ (index : ℕ → IndexForm) (v : GroupData) (hs : List HeldBatch) (k : IsTallied b es g hs) (shown : IsShownBy b index es g v hs) (cells : List CellData) (put : ReadsSame cells (o.cells ++ read_of o.index.region)) where
    abbrev h : HeldBatch
    h = own_of m hs

    tie : (m < length hs) × (IsHeldAs o.batch.batch h × IsInPhase es g.table.id.0 o.batch h)
    tie = tied_at es g.table.id.0 g.batches.items hs (to_tied es g.table.id.0 g.batches.items hs k.batches k.phases) m o.batch o.step.step.batch

    place : h.done ≡ o.place
    place = marks_at b es g hs k m d g' old new o

    in_phase : IsBatchIn es tie.1.1.batch.seat g.table.id.0 h.stamp trail.Marking
    in_phase = (let phase = tie.1.1 in record { batch = phase.batch; is = phase.is; mine = refl; phase = phase.phase ∙ ap as_phase o.marking })

    next : h.done < h.count
    next = (let l = ap (λ (q : List (List (List CellData))). length q) o.kept in let n = o.next in let c = tie.1.1.count in let p = place in omega (arith, l, n, c, p))

    before : ReadsSame cells (o.cells ++ (get_or v.indexes h.done no_part).cells)
    before = subst (λ (n : ℕ). ReadsSame cells (o.cells ++ (get_or v.indexes n no_part).cells)) (sym place) (subst (λ (q : List CellData). ReadsSame cells (o.cells ++ q)) (sym (shown.parts o.place o.index o.step.index).cells) put)

    -- the table's data then
    pub marks_then : IndexThen (form_of b index g) es v o.place cells
    marks_then = record {
      table_data = record (cells_data h.done cells v) { opens = set v.opens m (gone_on (open_of h)) };
      kept = (table_mark (form_of b index g) es v hs shown.kept m tie.0 tie.1.1.batch.seat in_phase next o.cells cells (marks_handed o.batch.batch h tie.1.0 o.parts o.rest o.kept o.cells o.handed) before).kept.group;
      high = omega arith;
      low = refl;
      cells = refl;
      indexes = ap (λ (n : ℕ). set v.indexes n (with_cells cells (get_or v.indexes n no_part))) place;
    }

  pub marks_go : IndexGoes b es es g o.place o.index o.cells
  marks_go index v hs k shown told cells put = marks_then index v hs k shown cells put

-- where all calls succeeded
pub marks_show : {D : Type 0} (d : Ghosts D) (b : Base) (es : List Entry) (g g' : Group) (old new : D) (m : ℕ) (right : IsRightGroup g) (w : WroteMarks d g g' old new m) → IndexShows b es es g g' (held_marked m) w.hands.place w.hands.region
unfolding marks_then
marks_show d b es g g' old new m right w index v hs k shown told built = (let
    then = marks_then d b es g g' old new m w.hands index v hs k shown (read_of w.hands.region) w.written.reads
    in record {
      then = then;
      shown = marks_shown b index es g g' v hs right k shown m d old new w;
      told = told_still (form_of b index g) es v then.table_data shown.kept.group then.kept told.told refl refl;
      built = (let
          own = own_of m hs
          in built_step (form_of b index g) es v shown.kept.group (λ i r. at_index own.done i (change_event (Mark own.stamp) (change_of own.changes r))) then.table_data (marks_steps b index es g g' v hs right k shown m d old new w).does
          (λ i r. run_change_at (Mark own.stamp) tt (nat_eq own.done i) (change_of own.changes r)) (λ i l. same_ids v.indexes own.done (with_cells (read_of w.hands.region) (get_or v.indexes own.done no_part)) refl i l) built);
    })

-- ---- what closes them

module _ {D : Type 0} (d : Ghosts D) (b : Base) (es : List Entry) (g g' : Group) (old new : D) (m : ℕ) (o : HandsCloses d g g' old new m) where
  pub closes_to : ToIndex g g' o.place o.index o.region
  closes_to = record { table = o.step.step.table; points = o.step.step.points; index = o.step.index; rows = o.step.rows; indexes = o.step.indexes }

  module _ (index : ℕ → IndexForm) (v : GroupData) (hs : List HeldBatch) (k : IsTallied b es g hs) (shown : IsShownBy b index es g v hs) (cells : List CellData) (put : ReadsSame cells (o.cells ++ read_of o.index.region)) where
    abbrev own : HeldBatch
    own = own_of m hs

    its_tie : (m < length hs) × (IsHeldAs o.batch.batch own × IsInPhase es g.table.id.0 o.batch own)
    its_tie = tied_at es g.table.id.0 g.batches.items hs (to_tied es g.table.id.0 g.batches.items hs k.batches k.phases) m o.batch o.step.step.batch

    its_place : own.verified ≡ o.place
    its_place = closes_at b es g hs k m d g' old new o

    its_phase : IsBatchIn es its_tie.1.1.batch.seat g.table.id.0 own.stamp trail.Verifying
    its_phase = (let phase = its_tie.1.1 in record { batch = phase.batch; is = phase.is; mine = refl; phase = phase.phase ∙ ap as_phase o.verifying })

    its_next : own.verified < own.count
    its_next = (let l = ap (λ (q : List (List (List CellData))). length q) o.kept in let n = o.next in let c = its_tie.1.1.count in let p = its_place in omega (arith, l, n, c, p))

    its_before : ReadsSame cells (o.cells ++ (get_or v.indexes own.verified no_part).cells)
    its_before = subst (λ (n : ℕ). ReadsSame cells (o.cells ++ (get_or v.indexes n no_part).cells)) (sym its_place) (subst (λ (q : List CellData). ReadsSame cells (o.cells ++ q)) (sym (shown.parts o.place o.index o.step.index).cells) put)

    pub closes_then : IndexThen (form_of b index g) es v o.place cells
    closes_then = record {
      table_data = cells_data own.verified cells v;
      kept = (table_verify (form_of b index g) es v hs shown.kept m its_tie.0 its_tie.1.1.batch.seat its_phase its_next o.cells cells (closes_handed o.batch.batch own its_tie.1.0 o.parts o.rest o.kept o.cells o.handed) its_before).kept.group;
      high = omega arith;
      low = refl;
      cells = refl;
      indexes = ap (λ (n : ℕ). set v.indexes n (with_cells cells (get_or v.indexes n no_part))) its_place;
    }

  pub closes_go : IndexGoes b es es g o.place o.index o.cells
  closes_go index v hs k shown told cells put = closes_then index v hs k shown cells put

pub closes_show : {D : Type 0} (d : Ghosts D) (b : Base) (es : List Entry) (g g' : Group) (old new : D) (m : ℕ) (right : IsRightGroup g) (w : WroteCloses d g g' old new m) → IndexShows b es es g g' (held_verified m) w.hands.place w.hands.region
unfolding closes_then
closes_show d b es g g' old new m right w index v hs k shown told built = (let
    then = closes_then d b es g g' old new m w.hands index v hs k shown (read_of w.hands.region) w.written.reads
    in record {
      then = then;
      shown = closes_shown b index es g g' v hs right k shown m d old new w;
      told = told_still (form_of b index g) es v then.table_data shown.kept.group then.kept told.told refl refl;
      built = (let
          own = own_of m hs
          in built_step (form_of b index g) es v shown.kept.group (λ i r. at_index own.verified i (row_event (Verify own.stamp) (has (to_verify own) r))) then.table_data (closes_steps b index es g g' v hs right k shown m d old new w).does
          (λ i r. run_at (Verify own.stamp) tt (nat_eq own.verified i) (has (to_verify own) r)) (λ i l. same_ids v.indexes own.verified (with_cells (read_of w.hands.region) (get_or v.indexes own.verified no_part)) refl i l) built);
    })
