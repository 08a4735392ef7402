-- Each step keeps a table and its open batches, and is its events.
use Rattle.std.proofs.Common.{◌≡◌, ℕ, zero, suc, ◌<◌, ◌≤◌, ◌+◌, ◌||◌, true, false, not, filter, map, length, get_or, Some, List, [], ◌∷◌, ◌++◌, refl, ap, sym, ◌∙◌, subst, inl, inr, arith}
use Rattle.std.specs.Prelude.{is_some, nat_eq}
use Rattle.std.specs.List.{AllByRecursion}
use Rattle.std.proofs.Math.ListN.{set, length-set, get_or-map}
use Rattle.std.proofs.lemmas.Bool.{cases_Bool}
use Rattle.std.proofs.lemmas.List.{length-map, map-append, map-set}
use Rattle.px_cells.specs.CellData.{CellData}
use Rattle.px_cells.specs.Contents.{value_at}
use Rattle.px_cells.specs.Order.{ReadsSame}
use Rattle.px_values.specs.declared.row.Value.{Value}
use Rattle.px_values.specs.declared.change.Change.{Change}
use Rattle.px_trail.specs.declared.entry.Act.{Act}
use Rattle.px_trail.specs.declared.entry.Act.TheVariants.{Begun, Wrote, Ended, Phase}
use Rattle.px_trail.specs.declared.entry.Entry.{Entry}
use Rattle.px_trail.specs.Batches.{Batch, IsBatchIn, IsConcurrent, Marking, Verifying, batch_of, change_of, has, rows_of, unwritten}
use Rattle.px_trail.specs.Legal.{Follows, IsEndable, IsWritable, MayCome}
use Rattle.px_trail.specs.Trail.{last_of}
use Rattle.px_trail.proofs.Batches.{in_marking, in_verifying}
use Rattle.px_world.specs.Closed.{Closed}
use Rattle.px_world.specs.Events.{Mark, Verify, Write, End}
use Rattle.px_indexed.specs.Worlds.{begin_event, change_event, row_event}
use Rattle.px_indexed.specs.Kept.{RowsKept}
use Rattle.px_indexed.proofs.Idle.{IsIdle}
use Rattle.px_indexed.proofs.Rows.{ending, phasing, same_some}
use Rattle.px_groupworld.specs.Group.{TableForm, GroupData, IndexPart, OpenBatch, no_open, no_part, shape_in, world_in}
use Rattle.px_groupworld.specs.Steps.{Events, Does, Steps, at_index, no_events, begun_data, cells_data, ended_data, gone_on, with_cells, wrote_data}
use Rattle.px_groupworld.specs.Asks.{FitAll, HasMarked}
use Rattle.px_groupworld.proofs.Entries.{group_begun, group_ended, group_idle, group_marked, group_verified_all, group_wrote, rows_of_group}
use Rattle.px_groupworld.proofs.Cells.{group_mark, group_verify}
use Rattle.px_forms.specs.Several.{cells_for}
use Rattle.px_openbatches.specs.Made.{IsComputed, RowCells, picked_cells}
use Rattle.px_openbatches.specs.Pending.{AreStampsRisingFrom, HeldBatch, IsHeldBatch, after_pending, fresh_held, held_begun, held_ended, held_wrote, is_in, is_left, to_verify, with_met, writes_rows}
use Rattle.px_openbatches.specs.Opens.{IsBatchReady, IsNoBirthOf, OpensKept, form_in}
use Rattle.px_openbatches.proofs.Hands.{can_mark, can_verify, can_write, verifies}
use Rattle.px_openbatches.proofs.Meetings.{met_concurrent}
use Rattle.px_openbatches.proofs.Helds.{all_end, left_not_none}
use Rattle.px_openbatches.proofs.Readies.{opens_begun, opens_ended, opens_idle, opens_phase, opens_regions, opens_wrote}
use Rattle.px_openbatches.proofs.Shut.{closed_verified}
use Rattle.px_tablesteps.specs.Kept.{AreMarksClosed, TableKept, TableSteps, no_held, open_of}
use Rattle.px_tablesteps.proofs.Lists.{held_at, held_filter, held_map, held_set, held_three, opens_ended as left_opens, opens_same, part_same}
use Rattle.px_tablesteps.proofs.Shuts.{at_none, begin_none, change_none, row_none, shut_meets, shut_same, shut_wrote}

module _ (f : TableForm) (es : List Entry) (v : GroupData) (hs : List HeldBatch) (k : TableKept f es v hs) where
  abbrev t : ℕ
  t = f.id.0

  rows : RowsKept f.rows.shape f.base es t v.high
  rows = rows_of_group f es v k.group

  -- all open batches after a step that leaves the numbers of the indexes
  shut_all : (es' : List Entry) (v' : GroupData) (e : Events) → ((i : ℕ) (r : List Value) → IsNoBirthOf (e i r)) → Does f e es v es' v' → ((i : ℕ) → i < length v.indexes → (get_or v'.indexes i no_part).id ≡ (get_or v.indexes i no_part).id) → AllByRecursion (AreMarksClosed f es' v') hs
  shut_all es' v' e none d ids = held_three (IsHeldBatch es t) (IsBatchReady f es v.indexes) (AreMarksClosed f es v) (AreMarksClosed f es' v') (λ h is ready q. shut_same f es es' v v' k.group e none d ids h is ready q) hs k.opens.held.each k.opens.ready k.shut

  -- ---- a batch begins

  pub table_begun : (e : Entry) → MayCome f.base es e → (s : ℕ) (cs : List Change) → e.act ≡ Begun f.id s cs → FitAll f cs → (p : ℕ) → last_of f.base t es ≤ p → v.low ≤ p → (made : List RowCells) → map (λ (x : RowCells). x.row) made ≡ rows_of cs
      → AllByRecursion (IsComputed f (form_in f v.indexes) (length v.indexes) s cs (λ r. after_pending f.rows.shape r (f.rows.spelled (value_at v.cells) r p) hs)) made
      → TableSteps f (λ i r. begin_event s (change_of cs r)) es v (es ++ e ∷ []) (begun_data s v) (held_begun s cs (length v.indexes) made hs)
  unfolding Follows
  table_begun e may s cs is fits p newest within made names computed =
      let g = group_begun f es v k.group e may s cs is fits in
      let fresh : HeldBatch = fresh_held s cs (length v.indexes) made hs in
      let may' : Follows f.base es e.seat e.calls (Begun f.id s cs) = subst (λ (a : Act). Follows f.base es e.seat e.calls a) is may.follows in
      record {
        kept = record {
          group = g.kept;
          opens = opens_begun f es v.indexes v.high rows hs k.opens v.low v.cells k.group.told e s cs is may'.0 may'.1 p newest within (λ i l. (k.group.indexes i l).birth) made names computed;
          same = ap (λ (os : List OpenBatch). os ++ open_of fresh ∷ []) k.same ∙ (ap (λ (os : List OpenBatch). os ++ open_of fresh ∷ []) (sym (opens_same (with_met cs) (λ h. refl) hs)) ∙ sym (map-append open_of (map (with_met cs) hs) (fresh ∷ [])));
          shut = all_end (AreMarksClosed f (es ++ e ∷ []) (begun_data s v)) (map (with_met cs) hs) fresh
              (held_map (IsHeldBatch es t) (IsBatchReady f es v.indexes) (AreMarksClosed f es v) (AreMarksClosed f (es ++ e ∷ []) (begun_data s v)) (with_met cs)
              (λ h z ready q. shut_meets f es (es ++ e ∷ []) v (begun_data s v) k.group (λ i r. begin_event s (change_of cs r)) (λ i r. begin_none s (change_of cs r)) g.does (λ i l. refl) h z ready q cs)
              hs k.opens.held.each k.opens.ready k.shut)
              (record { whole = λ n. absurd (n refl); inside = omega arith; closed = record { each = λ i l r x. absurd (omega arith) } });
        };
        does = g.does;
      }

  -- ---- an entry that leaves the open batches as they are

  entry_step : (e : Entry) → Steps f no_events es v (es ++ e ∷ []) v → OpensKept f (es ++ e ∷ []) v.indexes hs → TableSteps f no_events es v (es ++ e ∷ []) v hs
  entry_step e g opens = record { kept = record { group = g.kept; opens = opens; same = k.same; shut = shut_all (es ++ e ∷ []) v no_events (λ i r. tt) g.does (λ i l. refl) }; does = g.does }

  pub table_idle : (e : Entry) → MayCome f.base es e → IsIdle f.id e → TableSteps f no_events es v (es ++ e ∷ []) v hs
  table_idle e may idle = entry_step e (group_idle f es v k.group e may idle) (opens_idle f es v.indexes v.high rows hs k.opens e idle.still)

  phase_opens : (e : Entry) → MayCome f.base es e → (s n : ℕ) → e.act ≡ Phase f.id s n → OpensKept f (es ++ e ∷ []) v.indexes hs
  unfolding Follows
  phase_opens e may s n is = opens_phase f es v.indexes v.high rows hs k.opens e s n is (phasing es e.seat t s n (subst (λ (a : Act). Follows f.base es e.seat e.calls a) is may.follows))

  pub table_verified : (e : Entry) → MayCome f.base es e → (s : ℕ) → e.act ≡ Phase f.id s 3 → TableSteps f no_events es v (es ++ e ∷ []) v hs
  table_verified e may s is = entry_step e (group_verified_all f es v k.group e may s is) (phase_opens e may s 3 is)

  -- ---- rows are written

  pub table_wrote : (e : Entry) → MayCome f.base es e → (m : ℕ) → m < length hs → (rs : List (List Value)) → e.act ≡ Wrote f.id (get_or hs m no_held).stamp rs → (batch new : List CellData)
      → ReadsSame batch (cells_for (picked_cells (λ x. x.puts) (get_or hs m no_held).cells) rs) → ReadsSame new (batch ++ v.cells)
      → TableSteps f (λ i r. row_event (Write (get_or hs m no_held).stamp) (has rs r)) es v (es ++ e ∷ []) (wrote_data new v) (held_wrote (get_or hs m no_held).stamp rs hs)
  unfolding Follows
  table_wrote e may m l rs is batch new same put =
      let h : HeldBatch = get_or hs m no_held in
      let held : IsHeldBatch es t (get_or hs m no_held) = held_at (IsHeldBatch es t) hs m k.opens.held.each l in
      let ready : IsBatchReady f es v.indexes (get_or hs m no_held) = held_at (IsBatchReady f es v.indexes) hs m k.opens.ready l in
      let w : IsWritable es e.seat t (get_or hs m no_held).stamp rs = subst (λ (a : Act). Follows f.base es e.seat e.calls a) is may.follows in
      let g = group_wrote f es v k.group e may h.stamp rs is w.batch w.is batch new (can_write f es v k.group h held ready e.seat rs w batch same) put in
      record {
        kept = record {
          group = g.kept;
          opens = opens_wrote f es v.indexes v.high rows hs k.opens e h.stamp rs is w;
          same = k.same ∙ sym (opens_same (writes_rows h.stamp rs) (λ h. refl) hs);
          shut = held_map (IsHeldBatch es t) (IsBatchReady f es v.indexes) (AreMarksClosed f es v) (AreMarksClosed f (es ++ e ∷ []) (wrote_data new v)) (writes_rows h.stamp rs)
              (λ x z y q. shut_wrote f es (es ++ e ∷ []) v (wrote_data new v) k.group (λ i r. row_event (Write h.stamp) (has rs r)) (λ i r. row_none (Write h.stamp) (has rs r) tt) g.does (λ i l. refl) x z y q h.stamp rs)
              hs k.opens.held.each k.opens.ready k.shut;
        };
        does = g.does;
      }

  -- ---- one open batch

  module _ (m : ℕ) (l : m < length hs) where
    abbrev h : HeldBatch
    h = get_or hs m no_held

    held : IsHeldBatch es t h
    held = held_at (IsHeldBatch es t) hs m k.opens.held.each l

    ready : IsBatchReady f es v.indexes h
    ready = held_at (IsBatchReady f es v.indexes) hs m k.opens.ready l

    open_is : get_or v.opens m no_open ≡ open_of h
    open_is = ap (λ (os : List OpenBatch). get_or os m no_open) k.same ∙ get_or-map open_of hs m no_held

    among : m < length v.opens
    among = let n = ap (λ (os : List OpenBatch). length os) k.same in let q = length-map hs open_of in omega arith

    -- the batch of the trail, in a phase
    batch_is : (x : Batch) → batch_of t h.stamp es ≡ Some x → x ≡ held.batch
    batch_is x q = same_some (sym q ∙ held.is)

    -- it has come further, with the same changes and cells
    module _ (done' verified' : ℕ) where
      abbrev further : HeldBatch
      further = record h { done = done'; verified = verified' }

      held_further : IsHeldBatch es t further
      held_further = record { batch = held.batch; is = held.is; changes = held.changes; written = held.written; running = held.running; met_from = held.met_from; met_to = held.met_to; counted = held.counted }

      ready_further : IsBatchReady f es v.indexes further
      ready_further = record { inside = ready.inside; distinct = ready.distinct; made = ready.made; born = ready.born }

      opens_further : (xs : List IndexPart) → length v.indexes ≤ length xs → ((i : ℕ) → i < length v.indexes → (get_or xs i no_part).id ≡ (get_or v.indexes i no_part).id) → ((i : ℕ) → i < length v.indexes → (get_or xs i no_part).birth ≡ (get_or v.indexes i no_part).birth) → OpensKept f es xs (set hs m further)
      opens_further xs more ids births = opens_regions f es v.indexes v.high rows (set hs m further) (record {
        held = record {
          rising = rising_set (f.base.last t) hs m further refl k.opens.held.rising l;
          each = held_set (IsHeldBatch es t) hs m further k.opens.held.each held_further;
          all = λ s y q n. in_set s hs m further refl l ∙ k.opens.held.all s y q n;
        };
        ready = held_set (IsBatchReady f es v.indexes) hs m further k.opens.ready ready_further;
      }) xs more ids births
        where
          rising_set : (q : ℕ) (xs : List HeldBatch) (n : ℕ) (x : HeldBatch) → x.stamp ≡ (get_or xs n no_held).stamp → AreStampsRisingFrom q xs → n < length xs → AreStampsRisingFrom q (set xs n x)
          rising_set q [] n x e a l = tt
          rising_set q (y ∷ ys) zero x e a l = ((let b = a.0 in omega arith), subst (λ (z : ℕ). AreStampsRisingFrom z ys) (sym e) a.1)
          rising_set q (y ∷ ys) (suc n) x e a l = (a.0, rising_set y.stamp ys n x e a.1 (omega arith))

          in_set : (s : ℕ) (xs : List HeldBatch) (n : ℕ) (x : HeldBatch) → x.stamp ≡ (get_or xs n no_held).stamp → n < length xs → is_in s (set xs n x) ≡ is_in s xs
          in_set s [] n x e l = refl
          in_set s (y ∷ ys) zero x e l = ap (λ (z : ℕ). nat_eq z s || is_in s ys) e
          in_set s (y ∷ ys) (suc n) x e l = ap (λ c. nat_eq y.stamp s || c) (in_set s ys n x e (omega arith))

    -- ---- it marks its next index

    pub table_mark : (seat : ℕ) → IsBatchIn es seat t h.stamp Marking → h.done < h.count → (batch new : List CellData) → ReadsSame batch (cells_for (picked_cells (λ x. get_or x.marks h.done []) h.cells) (rows_of h.changes)) → ReadsSame new (batch ++ (get_or v.indexes h.done no_part).cells)
        → TableSteps f (λ i r. at_index h.done i (change_event (Mark h.stamp) (change_of h.changes r))) es v es (record (cells_data h.done new v) { opens = set v.opens m (gone_on (open_of h)) }) (set hs m (record h { done = h.done + 1; verified = h.verified }))
    table_mark seat phase next batch new same put =
        let first : held.batch.phase ≡ 0 = ap (λ (x : Batch). x.phase) (sym (batch_is phase.batch phase.is)) ∙ (in_marking phase.batch phase.phase).1 in
        let can = can_mark f es v k.group h held ready m h.done among (sym open_is) next first batch same in
        let put' : ReadsSame new (batch ++ (get_or v.indexes (get_or v.opens m no_open).done no_part).cells) = subst (λ (o : OpenBatch). ReadsSame new (batch ++ (get_or v.indexes o.done no_part).cells)) (sym open_is) put in
        let g0 = group_mark f es v k.group m batch new can put' in
        let changes : can.batch.changes ≡ h.changes = ap (λ (x : Batch). x.changes) (batch_is can.batch (subst (λ (o : OpenBatch). batch_of t o.stamp es ≡ Some can.batch) open_is can.is)) ∙ held.changes in
        let g : Steps f (λ i r. at_index h.done i (change_event (Mark h.stamp) (change_of h.changes r))) es v es (record (cells_data h.done new v) { opens = set v.opens m (gone_on (open_of h)) }) =
        subst (λ (cs : List Change). Steps f (λ i r. at_index h.done i (change_event (Mark h.stamp) (change_of cs r))) es v es (record (cells_data h.done new v) { opens = set v.opens m (gone_on (open_of h)) })) changes
        (subst (λ (o : OpenBatch). Steps f (λ i r. at_index o.done i (change_event (Mark o.stamp) (change_of can.batch.changes r))) es v es (record (cells_data o.done new v) { opens = set v.opens m (gone_on o) })) open_is g0) in
        let n = length-set v.indexes h.done (with_cells new (get_or v.indexes h.done no_part)) in
        let ids = part_same (λ x. x.id) v.indexes h.done (with_cells new (get_or v.indexes h.done no_part)) refl in
        let births = part_same (λ x. x.birth) v.indexes h.done (with_cells new (get_or v.indexes h.done no_part)) refl in
        let now : GroupData = record (cells_data h.done new v) { opens = set v.opens m (gone_on (open_of h)) } in
        let all = shut_all es now (λ i r. at_index h.done i (change_event (Mark h.stamp) (change_of h.changes r))) (λ i r. at_none h.done i (change_event (Mark h.stamp) (change_of h.changes r)) (change_none (Mark h.stamp) (change_of h.changes r) tt)) g.does ids in
        let mine = held_at (AreMarksClosed f es now) hs m all l in
        record {
          kept = record {
            group = g.kept;
            opens = opens_further (h.done + 1) h.verified (set v.indexes h.done (with_cells new (get_or v.indexes h.done no_part))) (omega arith) ids births;
            same = ap (λ (os : List OpenBatch). set os m (gone_on (open_of h))) k.same ∙ sym (map-set open_of hs m (record h { done = h.done + 1; verified = h.verified }));
            shut = held_set (AreMarksClosed f es now) hs m (record h { done = h.done + 1; verified = h.verified }) all (record { whole = mine.whole; inside = mine.inside; closed = record { each = mine.closed.each } });
          };
          does = g.does;
        }

    -- it has marked all its indexes
    pub table_marked : (e : Entry) → MayCome f.base es e → h.done ≡ h.count → e.act ≡ Phase f.id h.stamp 1 → TableSteps f no_events es v (es ++ e ∷ []) v hs
    table_marked e may all is = entry_step e (group_marked f es v k.group e may m has_marked (is ∙ ap (λ (o : OpenBatch). Phase f.id o.stamp 1) (sym open_is))) (phase_opens e may h.stamp 1 is)
      where
        has_marked : HasMarked v m
        has_marked = record { among = among; all = ap (λ (o : OpenBatch). o.done) open_is ∙ (all ∙ ap (λ (o : OpenBatch). o.count) (sym open_is)) }

    -- ---- it verifies its next index

    pub table_verify : (seat : ℕ) → IsBatchIn es seat t h.stamp Verifying → h.verified < h.count → (batch new : List CellData) → ReadsSame batch (cells_for (picked_cells (λ x. get_or x.closes h.verified []) h.cells) (to_verify h)) → ReadsSame new (batch ++ (get_or v.indexes h.verified no_part).cells)
        → TableSteps f (λ i r. at_index h.verified i (row_event (Verify h.stamp) (has (to_verify h) r))) es v es (cells_data h.verified new v) (set hs m (record h { done = h.done; verified = h.verified + 1 }))
    table_verify seat phase next batch new same put =
        let whole : unwritten held.batch ≡ [] = ap (λ (x : Batch). unwritten x) (sym (batch_is phase.batch phase.is)) ∙ (in_verifying phase.batch phase.phase).2 in
        let can = can_verify f es v k.group h held ready h.verified next whole batch same in
        let g = group_verify f es v k.group h.verified batch new put h.stamp (to_verify h) can in
        let n = length-set v.indexes h.verified (with_cells new (get_or v.indexes h.verified no_part)) in
        let ids = part_same (λ x. x.id) v.indexes h.verified (with_cells new (get_or v.indexes h.verified no_part)) refl in
        let births = part_same (λ x. x.birth) v.indexes h.verified (with_cells new (get_or v.indexes h.verified no_part)) refl in
        let all = shut_all es (cells_data h.verified new v) (λ i r. at_index h.verified i (row_event (Verify h.stamp) (has (to_verify h) r))) (λ i r. at_none h.verified i (row_event (Verify h.stamp) (has (to_verify h) r)) (row_none (Verify h.stamp) (has (to_verify h) r) tt)) g.does ids in
        let mine = held_at (AreMarksClosed f es v) hs m k.shut l in
        let more = closed_verified f es es v (cells_data h.verified new v) k.group h held whole ids h.verified (let z = ready.inside in omega arith) g.does mine.closed in
        record {
          kept = record {
            group = g.kept;
            opens = opens_further h.done (h.verified + 1) (set v.indexes h.verified (with_cells new (get_or v.indexes h.verified no_part))) (omega arith) ids births;
            same = k.same ∙ (sym (set_same hs m) ∙ sym (map-set open_of hs m (record h { done = h.done; verified = h.verified + 1 })));
            shut = held_set (AreMarksClosed f es (cells_data h.verified new v)) hs m (record h { done = h.done; verified = h.verified + 1 }) all (record { whole = λ z. none_is whole; inside = omega arith; closed = record { each = more.each } });
          };
          does = g.does;
        }
      where
        set_same : (xs : List HeldBatch) (n : ℕ) → set (map open_of xs) n (open_of (get_or xs n no_held)) ≡ map open_of xs
        set_same [] n = refl
        set_same (x ∷ xs) zero = refl
        set_same (x ∷ xs) (suc n) = ap (λ l. open_of x ∷ l) (set_same xs n)

        none_is : unwritten held.batch ≡ [] → is_left h ≡ false
        none_is w = elim (cases_Bool (is_left h)) [
          | inl e ↦ absurd (left_not_none h.changes h.written e ((λ i. filter (λ r. not (sym (held.written r) i)) (rows_of (sym held.changes i))) ∙ w))
          | inr e ↦ e
        ]

    -- ---- it ends

    pub table_ended : (e : Entry) → MayCome f.base es e → h.done ≡ h.count → e.act ≡ Ended f.id h.stamp → TableSteps f (λ i r. change_event (End h.stamp) (change_of h.changes r)) es v (es ++ e ∷ []) (ended_data h.stamp v) (held_ended h.stamp hs)
    unfolding Follows
    table_ended e may all is =
        let may' : IsEndable es e.seat t h.stamp = subst (λ (a : Act). Follows f.base es e.seat e.calls a) is may.follows in
        let has_marked : HasMarked v m = record { among = among; all = ap (λ (o : OpenBatch). o.done) open_is ∙ (all ∙ ap (λ (o : OpenBatch). o.count) (sym open_is)) } in
        let g0 = group_ended f es v k.group e may m has_marked (is ∙ ap (λ (o : OpenBatch). Ended f.id o.stamp) (sym open_is)) held.batch (subst (λ (o : OpenBatch). batch_of t o.stamp es ≡ Some held.batch) (sym open_is) held.is) in
        let g : Steps f (λ i r. change_event (End h.stamp) (change_of h.changes r)) es v (es ++ e ∷ []) (ended_data h.stamp v) =
        subst (λ (cs : List Change). Steps f (λ i r. change_event (End h.stamp) (change_of cs r)) es v (es ++ e ∷ []) (ended_data h.stamp v)) held.changes
        (subst (λ (o : OpenBatch). Steps f (λ i r. change_event (End o.stamp) (change_of held.batch.changes r)) es v (es ++ e ∷ []) (ended_data o.stamp v)) open_is g0) in
        record {
          kept = record {
            group = g.kept;
            opens = opens_ended f es v.indexes v.high rows hs k.opens e h.stamp is (ending f.base es e.seat t h.stamp k.group.legal may');
            same = ap (λ (os : List OpenBatch). filter (λ o. not (nat_eq o.stamp h.stamp)) os) k.same ∙ sym (left_opens h.stamp hs);
            shut = held_filter (AreMarksClosed f (es ++ e ∷ []) (ended_data h.stamp v)) (λ x. not (nat_eq x.stamp h.stamp)) hs
                (shut_all (es ++ e ∷ []) (ended_data h.stamp v) (λ i r. change_event (End h.stamp) (change_of h.changes r)) (λ i r. change_none (End h.stamp) (change_of h.changes r) tt) g.does (λ i l. refl));
          };
          does = g.does;
        }

  -- ---- any other step that leaves the numbers and births of the indexes, and the open batches

  pub table_other : (e : Events) (es' : List Entry) (v' : GroupData) → Steps f e es v es' v' → ((i : ℕ) (r : List Value) → IsNoBirthOf (e i r)) → v'.opens ≡ v.opens → ((i : ℕ) → i < length v.indexes → (get_or v'.indexes i no_part).id ≡ (get_or v.indexes i no_part).id) → OpensKept f es' v'.indexes hs → TableSteps f e es v es' v' hs
  table_other e es' v' g none same ids opens = record { kept = record { group = g.kept; opens = opens; same = same ∙ k.same; shut = shut_all es' v' e none g.does ids }; does = g.does }

  -- cells are put into a region, or an index is made active or forgotten
  pub table_regions : (e : Events) (v' : GroupData) → Steps f e es v es v' → ((i : ℕ) (r : List Value) → IsNoBirthOf (e i r)) → v'.opens ≡ v.opens → ((i : ℕ) → i < length v.indexes → (get_or v'.indexes i no_part).id ≡ (get_or v.indexes i no_part).id) → ((i : ℕ) → i < length v.indexes → (get_or v'.indexes i no_part).birth ≡ (get_or v.indexes i no_part).birth) → TableSteps f e es v es v' hs
  table_regions e v' g none same ids births = table_other e es v' g none same ids (opens_regions f es v.indexes v.high rows hs k.opens v'.indexes (let n = g.does.count in omega arith) ids births)

  -- ---- what a receipt says: where the third phase came to every index, the marks of each row that isn't concurrent are closed

  pub receipt_closed : (m : ℕ) → m < length hs → (get_or hs m no_held).verified ≡ (get_or hs m no_held).count → (i : ℕ) → i < (get_or hs m no_held).count → (r : List Value) → is_some (change_of (get_or hs m no_held).changes r) ≡ true → (IsConcurrent es t (get_or hs m no_held).stamp r → ⊥) → Closed (shape_in f v i r) (world_in f es v i r) (get_or hs m no_held).stamp
  receipt_closed m l all i below r of lone =
      let h : HeldBatch = get_or hs m no_held in
      let held : IsHeldBatch es t (get_or hs m no_held) = held_at (IsHeldBatch es t) hs m k.opens.held.each l in
      let ready : IsBatchReady f es v.indexes (get_or hs m no_held) = held_at (IsBatchReady f es v.indexes) hs m k.opens.ready l in
      let shut = held_at (AreMarksClosed f es v) hs m k.shut l in
      shut.closed.each i (omega arith) r (elim (cases_Bool (has (to_verify (get_or hs m no_held)) r)) [
        | inl e ↦ e
        | inr e ↦ absurd (lone (met_concurrent es t h.stamp r ((verifies f es v k.group h held ready r of).0 e)))
      ])
