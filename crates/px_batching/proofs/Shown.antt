-- What a table shows, when an open batch of it goes on.
use Rattle.std.proofs.Common.{◌≡◌, ℕ, ◌+◌, ◌<◌, true, length, get_or, set, slice_get, Some, List, [], ◌∷◌, ◌++◌, refl, ap, sym, ◌∙◌, subst, inl, inr, arith}
use Rattle.std.specs.Prelude.{is_some}
use Rattle.std.proofs.Math.ListN.{length-set}
use Rattle.std.proofs.lemmas.List.{get_or-set_other, get_or-set_same}
use Rattle.px_outside.specs.declared.disk.Disk.{Ghosts}
use Rattle.px_cells.specs.CellData.{CellData}
use Rattle.px_cells.specs.Order.{ReadsSame}
use Rattle.px_region.specs.Region.{read_of}
use Rattle.px_region.specs.declared.region.Region.{Region}
use Rattle.px_tables.specs.declared.index.Index.{Index}
use Rattle.px_tables.specs.declared.table.Table.{Table}
use Rattle.px_values.specs.declared.row.Value.{Value}
use Rattle.px_values.specs.declared.change.Change.{Change}
use Rattle.px_trail.specs.declared.entry.Act.TheVariants.{Ended, Phase as PhaseDone, Wrote}
use Rattle.px_trail.specs.declared.entry.Entry.{Entry}
use Rattle.px_trail.specs.Batches.{Batch, IsBatchIn, IsConcurrent, batch_of, change_of, has, rows_of}
use Rattle.px_trail.specs.Batches as trail
use Rattle.px_trail.specs.Legal.{MayCome}
use Rattle.px_trail.specs.Trail.{Base}
use Rattle.px_world.specs.Closed.{Closed}
use Rattle.px_history.proofs.Changes.{change-has}
use Rattle.px_world.specs.Events.{End, Mark, Verify, Write}
use Rattle.px_forms.specs.Indexes.{IndexForm}
use Rattle.px_indexrow.specs.Form.{index_form}
use Rattle.px_indexed.specs.Worlds.{change_event, row_event}
use Rattle.px_rows.specs.Spelled.{row_form}
use Rattle.px_forms.specs.Several.{cells_for}
use Rattle.px_openbatches.specs.Made.{RowCells, picked_cells}
use Rattle.px_groupworld.specs.Group.{GroupData, IndexPart, TableForm, no_part, shape_in, table_form, world_in}
use Rattle.px_groupworld.specs.Steps.{at_index, cells_data, ended_data, gone_on, no_events, with_cells, wrote_data}
use Rattle.px_openbatches.specs.Pending.{HeldBatch, held_ended, held_wrote, to_verify}
use Rattle.px_phases.specs.Batch.{BatchData, IsHeldAs}
use Rattle.px_phases.proofs.Held.{closes_handed, marks_handed, puts_handed}
use Rattle.px_tablesteps.specs.Kept.{TableKept, TableSteps, no_held, open_of}
use Rattle.px_tablesteps.proofs.Steps.{receipt_closed, table_ended, table_mark, table_marked, table_verified, table_verify, table_wrote}
use Rattle.px_group.specs.Group.{FitsPhase, IsInPhase, IsPartOf, IsRightBatch, IsRightGroup, IsShownBy, IsTallied, as_phase, form_of}
use Rattle.px_group.specs.declared.group.Begun.{Begun}
use Rattle.px_group.specs.declared.group.Group.{Group}
use Rattle.px_group.specs.declared.group.IndexRegion.{IndexRegion}
use Rattle.px_group.specs.declared.group.Phase.{Phase}
use Rattle.px_group.specs.declared.group.Phase.TheVariants.{Closing, Marking, Verifying, Writing}
use Rattle.px_batching.specs.Steps.{FinishesCloses, FinishesMarks, IsIndexStep, LetsGo, StandsInPhase, WroteCloses, WroteMarks, WrotePuts}
use Rattle.px_batching.proofs.Pairs.{tied_at, to_tied}
use Rattle.px_batching.proofs.Places.{all_at, set_cases, within}

-- 1. The regions

-- the parts of the data are the regions, once one has other cells
module _ (b : Base) (index : ℕ → IndexForm) (g g' : Group) (m : ℕ) (x x' : Begun) (y : IndexRegion) (new : Region) where
  parts_on : (i j : ℕ) (k : ℕ) → j ≡ i → IsIndexStep g g' m x x' i y new → (v : GroupData) → length v.indexes ≡ length g.indexes.items → ((n : ℕ) (z : IndexRegion) → slice_get g.indexes.items n ≡ Some z → IsPartOf (get_or v.indexes n no_part) z)
      → (z : IndexRegion) → slice_get g'.indexes.items k ≡ Some z → IsPartOf (get_or (set v.indexes j (with_cells (read_of new) (get_or v.indexes j no_part))) k no_part) z
  parts_on i j k e s v count parts z at = elim (set_cases g.indexes.items i k (record y { region = new }) z (sym (ap (λ (l : List IndexRegion). slice_get l k) s.indexes) ∙ at)) [
    | inl q ↦
        (let l : j < length v.indexes = (let w = within g.indexes.items i y s.index in omega arith) in
        let old : IsPartOf (get_or v.indexes j no_part) y = subst (λ (n : ℕ). IsPartOf (get_or v.indexes n no_part) y) (sym e) (parts i y s.index) in
        let now : IsPartOf (with_cells (read_of new) (get_or v.indexes j no_part)) (record y { region = new }) = record { id = old.id; cells = refl; birth = old.birth; built = old.built } in
        let here : get_or (set v.indexes j (with_cells (read_of new) (get_or v.indexes j no_part))) k no_part ≡ with_cells (read_of new) (get_or v.indexes j no_part) = ap (λ (n : ℕ). get_or (set v.indexes j (with_cells (read_of new) (get_or v.indexes j no_part))) n no_part) (q.0 ∙ sym e) ∙ get_or-set_same v.indexes j (with_cells (read_of new) (get_or v.indexes j no_part)) no_part l in
        subst (λ (p : IndexPart). IsPartOf p z) (sym here) (subst (λ (w : IndexRegion). IsPartOf (with_cells (read_of new) (get_or v.indexes j no_part)) w) (sym q.1) now))
    | inr q ↦ subst (λ (p : IndexPart). IsPartOf p z) (sym (get_or-set_other v.indexes j k (with_cells (read_of new) (get_or v.indexes j no_part)) no_part (λ w. q.0 (w ∙ e)))) (parts k z q.1)
  ]

-- the index of each place, before a step of one region
index_of_step : (g g' : Group) (m i : ℕ) (x x' : Begun) (y : IndexRegion) (new : Region) → IsIndexStep g g' m x x' i y new → (k : ℕ) (z : IndexRegion) → slice_get g'.indexes.items k ≡ Some z → (w : IndexRegion) × ((slice_get g.indexes.items k ≡ Some w) × (w.index ≡ z.index))
index_of_step g g' m i x x' y new s k z at = elim (set_cases g.indexes.items i k (record y { region = new }) z (sym (ap (λ (l : List IndexRegion). slice_get l k) s.indexes) ∙ at)) [
  | inl q ↦ (y, (ap (λ n. slice_get g.indexes.items n) q.0 ∙ s.index, ap (λ (w : IndexRegion). w.index) (sym q.1)))
  | inr q ↦ (z, (q.1, refl))
]

forms_on : (index : ℕ → IndexForm) (g g' : Group) → g'.table ≡ g.table → ((k : ℕ) (z : IndexRegion) → slice_get g'.indexes.items k ≡ Some z → (w : IndexRegion) × ((slice_get g.indexes.items k ≡ Some w) × (w.index ≡ z.index)))
    → ((k : ℕ) (z : IndexRegion) → slice_get g.indexes.items k ≡ Some z → index z.index.id.0 ≡ index_form g.table z.index) → (k : ℕ) (z : IndexRegion) → slice_get g'.indexes.items k ≡ Some z → index z.index.id.0 ≡ index_form g'.table z.index
forms_on index g g' t back forms k z at = (let w = back k z at in subst (λ (u : Table). index z.index.id.0 ≡ index_form u z.index) (sym t) (subst (λ (q : Index). index q.id.0 ≡ index_form g.table q) w.1.1 (forms k w.0 w.1.0)))

stage_closed : (p : Phase) (n : ℕ) (o : BatchData) → p ≡ Closing → FitsPhase p n o → o.closes ≡ []
stage_closed Marking n o e s = cc
stage_closed Writing n o e s = cc
stage_closed Verifying n o e s = cc
stage_closed Closing n o e s = s.2

-- 2. Steps of an index region

module _ (b : Base) (index : ℕ → IndexForm) (es : List Entry) (g g' : Group) (v : GroupData) (hs : List HeldBatch) (r : IsRightGroup g) (k : IsTallied b es g hs) (shown : IsShownBy b index es g v hs) (m : ℕ) where
  abbrev form : TableForm
  form = form_of b index g

  abbrev t : ℕ
  t = g.table.id.0

  abbrev h : HeldBatch
  h = get_or hs m no_held

  abbrev place_of : (x : Begun) → slice_get g.batches.items m ≡ Some x → (m < length hs) × (IsHeldAs x.batch h × IsInPhase es t x h)
  place_of x at = tied_at es t g.batches.items hs (to_tied es t g.batches.items hs k.batches k.phases) m x at

  abbrev marked_shown : (new : Region) → GroupData
  marked_shown new = record (cells_data h.done (read_of new) v) { opens = set v.opens m (gone_on (open_of h)) }

  abbrev marked_held : List HeldBatch
  marked_held = set hs m (record h { done = h.done + 1; verified = h.verified })

  abbrev verified_shown : (new : Region) → GroupData
  verified_shown new = cells_data h.verified (read_of new) v

  abbrev verified_held : List HeldBatch
  verified_held = set hs m (record h { done = h.done; verified = h.verified + 1 })

  module _ {D : Type 0} (d : Ghosts D) (disk disk' : D) where
    pub marks_steps : (w : WroteMarks d g g' disk disk' m) → TableSteps form (λ i q. at_index h.done i (change_event (Mark h.stamp) (change_of h.changes q))) es v es (marked_shown w.hands.region) marked_held
    marks_steps w =
        let o = w.hands in
        let p = place_of o.batch o.step.step.batch in
        let phase = p.1.1 in
        let in_phase : IsBatchIn es phase.batch.seat t h.stamp trail.Marking = record { batch = phase.batch; is = phase.is; mine = refl; phase = phase.phase ∙ ap as_phase o.marking } in
        let l = ap (λ (q : List (List (List CellData))). length q) o.kept in
        let to_mark = p.1.0.to_mark in
        let count = phase.count in
        let next = o.next in
        let place : h.done ≡ o.place = omega arith in
        let cells : read_of o.index.region ≡ (get_or v.indexes h.done no_part).cells = sym (subst (λ (n : ℕ). IsPartOf (get_or v.indexes n no_part) o.index) (sym place) (shown.parts o.place o.index o.step.index)).cells in
        table_mark form es v hs shown.kept m p.0 phase.batch.seat in_phase (omega arith) o.cells (read_of o.region)
        (marks_handed o.batch.batch h p.1.0 o.parts o.rest o.kept o.cells o.handed)
        (subst (λ (q : List CellData). ReadsSame (read_of o.region) (o.cells ++ q)) cells w.written.reads)

    pub marks_shown : (w : WroteMarks d g g' disk disk' m) → IsShownBy b index es g' (marked_shown w.hands.region) marked_held
    marks_shown w =
        let o = w.hands in
        let p = place_of o.batch o.step.step.batch in
        let to_mark = p.1.0.to_mark in
        let count = p.1.1.count in
        let next = o.next in
        let place : h.done ≡ o.place = omega arith in
        let x' : Begun = record o.batch { batch = record o.batch.batch { marks = o.rest } } in
        let steps = marks_steps w in
        record {
          kept = subst (λ (u : Table). TableKept (table_form b u.id index (row_form u)) es (marked_shown o.region) marked_held) (sym o.step.step.table) steps.kept;
          rows = shown.rows ∙ ap (λ (q : Region). read_of q) (sym o.step.rows);
          count = length-set v.indexes h.done (with_cells (read_of o.region) (get_or v.indexes h.done no_part)) ∙ (shown.count ∙ sym (ap (λ (q : List IndexRegion). length q) o.step.indexes ∙ length-set g.indexes.items o.place (record o.index { region = o.region })));
          parts = λ i z at. parts_on b index g g' m o.batch x' o.index o.region o.place h.done i place o.step v shown.count shown.parts z at;
          forms = forms_on index g g' o.step.step.table (index_of_step g g' m o.place o.batch x' o.index o.region o.step) shown.forms;
        }

    pub closes_steps : (w : WroteCloses d g g' disk disk' m) → TableSteps form (λ i q. at_index h.verified i (row_event (Verify h.stamp) (has (to_verify h) q))) es v es (verified_shown w.hands.region) verified_held
    closes_steps w =
        let o = w.hands in
        let p = place_of o.batch o.step.step.batch in
        let phase = p.1.1 in
        let in_phase : IsBatchIn es phase.batch.seat t h.stamp trail.Verifying = record { batch = phase.batch; is = phase.is; mine = refl; phase = phase.phase ∙ ap as_phase o.verifying } in
        let l = ap (λ (q : List (List (List CellData))). length q) o.kept in
        let to_close = p.1.0.to_verify in
        let count = phase.count in
        let next = o.next in
        let place : h.verified ≡ o.place = omega arith in
        let cells : read_of o.index.region ≡ (get_or v.indexes h.verified no_part).cells = sym (subst (λ (n : ℕ). IsPartOf (get_or v.indexes n no_part) o.index) (sym place) (shown.parts o.place o.index o.step.index)).cells in
        table_verify form es v hs shown.kept m p.0 phase.batch.seat in_phase (omega arith) o.cells (read_of o.region)
        (closes_handed o.batch.batch h p.1.0 o.parts o.rest o.kept o.cells o.handed)
        (subst (λ (q : List CellData). ReadsSame (read_of o.region) (o.cells ++ q)) cells w.written.reads)

    pub closes_shown : (w : WroteCloses d g g' disk disk' m) → IsShownBy b index es g' (verified_shown w.hands.region) verified_held
    closes_shown w =
        let o = w.hands in
        let p = place_of o.batch o.step.step.batch in
        let to_close = p.1.0.to_verify in
        let count = p.1.1.count in
        let next = o.next in
        let place : h.verified ≡ o.place = omega arith in
        let x' : Begun = record o.batch { batch = record o.batch.batch { closes = o.rest } } in
        let steps = closes_steps w in
        record {
          kept = subst (λ (u : Table). TableKept (table_form b u.id index (row_form u)) es (verified_shown o.region) verified_held) (sym o.step.step.table) steps.kept;
          rows = shown.rows ∙ ap (λ (q : Region). read_of q) (sym o.step.rows);
          count = length-set v.indexes h.verified (with_cells (read_of o.region) (get_or v.indexes h.verified no_part)) ∙ (shown.count ∙ sym (ap (λ (q : List IndexRegion). length q) o.step.indexes ∙ length-set g.indexes.items o.place (record o.index { region = o.region })));
          parts = λ i z at. parts_on b index g g' m o.batch x' o.index o.region o.place h.verified i place o.step v shown.count shown.parts z at;
          forms = forms_on index g g' o.step.step.table (index_of_step g g' m o.place o.batch x' o.index o.region o.step) shown.forms;
        }

    -- 3. Rows are written

    pub wrote_steps : (w : WrotePuts d g g' disk disk' m) (e : Entry) → MayCome b es e → e.act ≡ Wrote g.table.id h.stamp (rows_of w.hands.batch.batch.changes) → TableSteps form (λ i q. row_event (Write h.stamp) (has (rows_of w.hands.batch.batch.changes) q)) es v (es ++ e ∷ []) (wrote_data (read_of w.hands.region) v) (held_wrote h.stamp (rows_of w.hands.batch.batch.changes) hs)
    wrote_steps w e may act =
        let o = w.hands in
        let p = place_of o.batch o.step.step.batch in
        let rows = rows_of o.batch.batch.changes in
        table_wrote form es v hs shown.kept e may m p.0 rows act o.cells (read_of o.region)
        (subst (λ (cs : List Change). ReadsSame o.cells (cells_for (picked_cells (λ (q : RowCells). q.puts) h.cells) (rows_of cs))) p.1.0.changes (puts_handed o.batch.batch h p.1.0 o.parts o.kept o.cells o.handed))
        (subst (λ (q : List CellData). ReadsSame (read_of o.region) (o.cells ++ q)) (sym shown.rows) w.written.reads)

    pub wrote_shown : (w : WrotePuts d g g' disk disk' m) (e : Entry) → MayCome b es e → e.act ≡ Wrote g.table.id h.stamp (rows_of w.hands.batch.batch.changes) → IsShownBy b index (es ++ e ∷ []) g' (wrote_data (read_of w.hands.region) v) (held_wrote h.stamp (rows_of w.hands.batch.batch.changes) hs)
    wrote_shown w e may act =
        let s = w.hands.step in
        record {
          kept = subst (λ (u : Table). TableKept (table_form b u.id index (row_form u)) (es ++ e ∷ []) (wrote_data (read_of w.hands.region) v) (held_wrote h.stamp (rows_of w.hands.batch.batch.changes) hs)) (sym s.step.table) (wrote_steps w e may act).kept;
          rows = ap (λ (q : Region). read_of q) (sym s.rows);
          count = shown.count ∙ ap (λ q. length q.items) (sym s.indexes);
          parts = λ i z at. shown.parts i z (sym (ap (λ q. slice_get q.items i) s.indexes) ∙ at);
          forms = forms_on index g g' s.step.table (λ i z at. (z, (sym (ap (λ q. slice_get q.items i) s.indexes) ∙ at, refl))) shown.forms;
        }

  -- 4. An entry alone

  quiet_shown : (es' : List Entry) (v' : GroupData) (hs' : List HeldBatch) → g'.table ≡ g.table → g'.rows ≡ g.rows → g'.indexes ≡ g.indexes → v'.cells ≡ v.cells → v'.indexes ≡ v.indexes → TableKept form es' v' hs' → IsShownBy b index es' g' v' hs'
  quiet_shown es' v' hs' tab rows indexes cells parts kept = record {
    kept = subst (λ (u : Table). TableKept (table_form b u.id index (row_form u)) es' v' hs') (sym tab) kept;
    rows = cells ∙ (shown.rows ∙ ap (λ (q : Region). read_of q) (sym rows));
    count = ap (λ (q : List IndexPart). length q) parts ∙ (shown.count ∙ ap (λ q. length q.items) (sym indexes));
    parts = λ i z at. subst (λ (q : List IndexPart). IsPartOf (get_or q i no_part) z) (sym parts) (shown.parts i z (sym (ap (λ q. slice_get q.items i) indexes) ∙ at));
    forms = forms_on index g g' tab (λ i z at. (z, (sym (ap (λ q. slice_get q.items i) indexes) ∙ at, refl))) shown.forms;
  }

  pub marked_steps : FinishesMarks g g' m → (e : Entry) → MayCome b es e → e.act ≡ PhaseDone g.table.id h.stamp 1 → TableSteps form no_events es v (es ++ e ∷ []) v hs
  marked_steps o e may act =
      let p = place_of o.batch o.step.step.batch in
      let l = ap (λ (q : List (List (List CellData))). length q) o.none in
      let to_mark = p.1.0.to_mark in
      table_marked form es v hs shown.kept m p.0 e may (omega arith) act

  pub marked_shown_on : FinishesMarks g g' m → (e : Entry) → MayCome b es e → e.act ≡ PhaseDone g.table.id h.stamp 1 → IsShownBy b index (es ++ e ∷ []) g' v hs
  marked_shown_on o e may act = quiet_shown (es ++ e ∷ []) v hs o.step.step.table o.step.rows o.step.indexes refl refl (marked_steps o e may act).kept

  pub verified_steps : (e : Entry) → MayCome b es e → e.act ≡ PhaseDone g.table.id h.stamp 3 → TableSteps form no_events es v (es ++ e ∷ []) v hs
  verified_steps e may act = table_verified form es v hs shown.kept e may h.stamp act

  pub verified_shown_on : FinishesCloses g g' m → (e : Entry) → MayCome b es e → e.act ≡ PhaseDone g.table.id h.stamp 3 → IsShownBy b index (es ++ e ∷ []) g' v hs
  verified_shown_on o e may act = quiet_shown (es ++ e ∷ []) v hs o.step.step.table o.step.rows o.step.indexes refl refl (verified_steps e may act).kept

  -- a batch that has marked its indexes ends
  pub ended_steps : (x : Begun) → LetsGo g g' m x → x.batch.marks ≡ [] → (e : Entry) → MayCome b es e → e.act ≡ Ended g.table.id h.stamp → TableSteps form (λ i q. change_event (End h.stamp) (change_of h.changes q)) es v (es ++ e ∷ []) (ended_data h.stamp v) (held_ended h.stamp hs)
  ended_steps x o none e may act =
      let p = place_of x o.batch in
      let l = ap (λ (q : List (List (List CellData))). length q) none in
      let to_mark = p.1.0.to_mark in
      table_ended form es v hs shown.kept m p.0 e may (omega arith) act

  pub ended_shown : (x : Begun) → LetsGo g g' m x → x.batch.marks ≡ [] → (e : Entry) → MayCome b es e → e.act ≡ Ended g.table.id h.stamp → IsShownBy b index (es ++ e ∷ []) g' (ended_data h.stamp v) (held_ended h.stamp hs)
  ended_shown x o none e may act = quiet_shown (es ++ e ∷ []) (ended_data h.stamp v) (held_ended h.stamp hs) o.table o.rows o.indexes refl refl (ended_steps x o none e may act).kept

  -- 5. The receipt: where all is verified, the marks of each row that isn't concurrent are closed

  pub closed_at : (a : StandsInPhase g m Closing) (i : ℕ) → i < a.batch.count → (q : List Value) → has (rows_of a.batch.batch.changes) q ≡ true → (IsConcurrent es t a.batch.batch.stamp q → ⊥) → Closed (shape_in form v i q) (world_in form es v i q) a.batch.batch.stamp
  closed_at a i below q mine lone =
      let p = place_of a.batch a.is in
      let none = stage_closed a.batch.phase a.batch.count a.batch.batch a.phase_is (all_at (IsRightBatch g) g.batches.items m a.batch a.is r.batches).stage in
      let l = ap (λ (z : List (List (List CellData))). length z) none in
      let to_close = p.1.0.to_verify in
      let count = p.1.1.count in
      let c = change-has a.batch.batch.changes q mine in
      let s = p.1.0.stamp in
      subst (λ (n : ℕ). Closed (shape_in form v i q) (world_in form es v i q) n) s
      (receipt_closed form es v hs shown.kept m p.0 (omega arith) i (omega arith) q (ap (λ (cs : List Change). is_some (change_of cs q)) p.1.0.changes ∙ ap is_some c.1) (λ z. lone (subst (λ (n : ℕ). IsConcurrent es t n q) s z)))
