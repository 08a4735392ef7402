-- What the trail tells of a table, when an open batch of it goes on.
use Rattle.std.proofs.Common.{◌≡◌, ◌≢◌, ℕ, ◌+◌, ◌<◌, Bool, true, false, cond, not, if◌then◌else◌, ◌&&◌, ◌||◌, filter, length, get_or, set, slice_get, Some, None, List, [], ◌∷◌, ◌++◌, refl, ap, sym, ◌∙◌, subst, inl, inr}
use Rattle.std.specs.Prelude.{is_some}
use Rattle.std.proofs.lemmas.Bool.{cases_eq}
use Rattle.px_outside.specs.declared.disk.Disk.{Ghosts}
use Rattle.px_region.specs.declared.region.Region.{Region}
use Rattle.px_tables.specs.declared.index.Index.{Index}
use Rattle.px_tables.specs.declared.table.Table.{Table}
use Rattle.px_values.specs.declared.change.Change.{Change}
use Rattle.px_values.specs.declared.name.TableId.{TableId}
use Rattle.px_values.specs.declared.row.Value.{Value}
use Rattle.px_trail.specs.declared.entry.Act.{Act}
use Rattle.px_trail.specs.declared.entry.Act.TheVariants.{Ended, Phase as PhaseDone, Wrote}
use Rattle.px_trail.specs.declared.entry.Entry.{Entry}
use Rattle.px_trail.specs.Batches.{Batch, BatchPhase, batch_of, has, phase_after, phase_of, rows_of, unwritten}
use Rattle.px_trail.specs.Batches as trail
use Rattle.px_trail.specs.Trail.{Base, Catalogue, catalogue_of, catalogue_step, horizon_of, horizon_step, last_step, index_of, last_of, open_points, points_step}
use Rattle.px_trail.proofs.Batches.{after-verifying, after-writing, in_marking, in_verifying, in_writing}
use Rattle.px_trail.proofs.Growth.{catalogue-snoc, horizon-snoc, last-snoc, points-snoc}
use Rattle.px_trail.proofs.Orders.{has-append}
use Rattle.px_openbatches.specs.Pending.{HeldBatch, HeldKept, IsHeldBatch, held_ended, held_wrote, writes_rows}
use Rattle.px_phases.specs.Batch.{BatchData, IsHeldAs}
use Rattle.px_phases.proofs.Held.{marked, other_wrote, verified, wrote}
use Rattle.px_tablesteps.specs.Kept.{no_held}
use Rattle.px_group.specs.Group.{AreInPhase, AreStanding, FitsPhase, IsInPhase, IsRightBatch, IsRightGroup, IsTallied, as_phase, points_in}
use Rattle.px_values.specs.Order.{row_order}
use Rattle.px_values.proofs.Equal.{row_order-Decides}
use Rattle.std.specs.Ordering.{is_eq}
use Rattle.px_openbatches.proofs.Helds.{same_batch}
use Rattle.px_group.specs.declared.group.Begun.{Begun}
use Rattle.px_group.specs.declared.group.Group.{Group}
use Rattle.px_group.specs.declared.group.IndexRegion.{IndexRegion}
use Rattle.px_group.specs.declared.group.Phase.{Phase}
use Rattle.px_group.specs.declared.group.Phase.TheVariants.{Marking, Writing, Verifying, Closing}
use Rattle.px_batching.specs.Steps.{FinishesCloses, FinishesMarks, HandsCloses, HandsMarks, IsBatchStep, IsIndexStep, LetsGo, WrotePuts}
use Rattle.px_batching.proofs.Pairs.{AreTied, IsAlone, IsTied, alone, each_at, in_set, map_same, rising_set, tied_at, tied_held, tied_map, tied_phases, tied_removed, tied_set, to_tied}
use Rattle.px_batching.proofs.Places.{all_at, all_set, same_at, set_here, set_other}
use Rattle.px_batching.proofs.Right.{SameIndexes, same_index, same_quiet}
use Rattle.px_batching.proofs.Trails.{TakesOn, held_after_ended, held_after_phase, held_after_wrote, takes_ended, takes_phase, takes_wrote}

-- 1. Definitions

-- each index is where it was
pub record AreStill (g g' : Group) : Type 0 where
  pub same : SameIndexes g g'
  pub each : (j : ℕ) (w : IndexRegion) → slice_get g.indexes.items j ≡ Some w → (z : IndexRegion) × ((slice_get g'.indexes.items j ≡ Some z) × (z.index ≡ w.index))

pub still_index : (g g' : Group) (m i : ℕ) (x x' : Begun) (y : IndexRegion) (new : Region) → IsIndexStep g g' m x x' i y new → AreStill g g'
still_index g g' m i x x' y new s = record {
  same = same_index g g' m i x x' y new s;
  each = λ j w at. elim (cases_eq j i) [
    | inl e ↦
        (let q : w ≡ y = same_at g.indexes.items i w y (ap (λ n. slice_get g.indexes.items n) (sym e) ∙ at) s.index in
        (record y { region = new }, ((λ t. slice_get (s.indexes t) (e t)) ∙ set_here g.indexes.items i y (record y { region = new }) s.index, ap (λ (k : IndexRegion). k.index) (sym q))))
    | inr e ↦ (w, (ap (λ (l : List IndexRegion). slice_get l j) s.indexes ∙ (set_other g.indexes.items i j (record y { region = new }) e ∙ at), refl))
  ];
}

pub still_quiet : (g g' : Group) → g'.table ≡ g.table → g'.indexes ≡ g.indexes → AreStill g g'
still_quiet g g' t s = record { same = same_quiet g g' t s; each = λ j w at. (w, (ap (λ v. slice_get v.items j) s ∙ at, refl)) }

-- the entries tell the same of the table's definitions, numbers and points
pub record TellsOn (b : Base) (es es' : List Entry) (t : ℕ) : Type 0 where
  pub catalogue : catalogue_of b es' ≡ catalogue_of b es
  pub last : last_of b t es' ≡ last_of b t es
  pub horizon : horizon_of b t es' ≡ horizon_of b t es
  pub points : (seat s : ℕ) → open_points seat t s es' ≡ open_points seat t s es

pub tells_same : (b : Base) (es : List Entry) (t : ℕ) → TellsOn b es es t
tells_same b es t = record { catalogue = refl; last = refl; horizon = refl; points = λ seat s. refl }

-- an act that changes none of it
tells_act : (b : Base) (es : List Entry) (e : Entry) (t : ℕ) (act : Act) → e.act ≡ act → ((c : Catalogue) → catalogue_step c act ≡ c) → ((n : ℕ) → last_step t n act ≡ n) → ((n : ℕ) → horizon_step t n act ≡ n) → ((seat s n by : ℕ) → points_step seat t s n by act ≡ n) → TellsOn b es (es ++ e ∷ []) t
tells_act b es e t act a c l h p = record {
  catalogue = catalogue-snoc b es e ∙ (ap (catalogue_step (catalogue_of b es)) a ∙ c (catalogue_of b es));
  last = last-snoc b t es e ∙ (ap (last_step t (last_of b t es)) a ∙ l (last_of b t es));
  horizon = horizon-snoc b t es e ∙ (ap (horizon_step t (horizon_of b t es)) a ∙ h (horizon_of b t es));
  points = λ seat s. points-snoc seat t s es e ∙ (ap (points_step seat t s (open_points seat t s es) e.seat) a ∙ p seat s (open_points seat t s es) e.seat);
}

pub tells_phase : (b : Base) (es : List Entry) (e : Entry) (t : ℕ) (tid : TableId) (s p : ℕ) → e.act ≡ PhaseDone tid s p → TellsOn b es (es ++ e ∷ []) t
unfolding catalogue_step points_step
tells_phase b es e t tid s p a = tells_act b es e t (PhaseDone tid s p) a (λ c. refl) (λ n. refl) (λ n. refl) (λ seat u n by. refl)

pub tells_wrote : (b : Base) (es : List Entry) (e : Entry) (t : ℕ) (tid : TableId) (s : ℕ) (rows : List (List Value)) → e.act ≡ Wrote tid s rows → TellsOn b es (es ++ e ∷ []) t
unfolding catalogue_step points_step
tells_wrote b es e t tid s rows a = tells_act b es e t (Wrote tid s rows) a (λ c. refl) (λ n. refl) (λ n. refl) (λ seat u n by. refl)

pub tells_ended : (b : Base) (es : List Entry) (e : Entry) (t : ℕ) (tid : TableId) (s : ℕ) → e.act ≡ Ended tid s → TellsOn b es (es ++ e ∷ []) t
unfolding catalogue_step points_step
tells_ended b es e t tid s a = tells_act b es e t (Ended tid s) a (λ c. refl) (λ n. refl) (λ n. refl) (λ seat u n by. refl)

-- 2. A table that goes on

module _ (b : Base) (es es' : List Entry) (g g' : Group) (hs hs' : List HeldBatch) (still : AreStill g g') (points : g'.points ≡ g.points) (last : g'.last ≡ g.last) (horizon : g'.horizon ≡ g.horizon) (tells : TellsOn b es es' g.table.id.0) (k : IsTallied b es g hs) where
  table_is : g'.table ≡ g.table
  table_is = still.same.table

  standing_on : AreStanding b es' g'
  standing_on = record {
    table = (λ i. (tells.catalogue i).tables (table_is i).id.0) ∙ (k.standing.table ∙ ap Some (sym table_is));
    index = λ i x at. (let w = still.same.each i x at in (λ j. (tells.catalogue j).indexes x.index.id.0) ∙ subst (λ (q : Index). index_of b es q.id.0 ≡ Some q) w.1.1 (k.standing.index i w.0 w.1.0));
    all = λ y is owner state. (let w = k.standing.all y ((λ j. (sym tells.catalogue j).indexes y.id.0) ∙ is) (owner ∙ ap (λ (q : Table). q.id.0) table_is) state in
        let z = still.each w.0 w.1.0 w.1.1.0 in
        (w.0, (z.0, (z.1.0, z.1.1 ∙ w.1.1.1))));
  }

  pub tallied_on : HeldKept b es' g.table.id.0 hs' → AreTied es' g.table.id.0 g'.batches.items hs' → IsTallied b es' g' hs'
  tallied_on held tied = record {
    standing = standing_on;
    last = (λ i. last_of b (table_is i).id.0 es') ∙ (tells.last ∙ (k.last ∙ sym last));
    horizon = (λ i. horizon_of b (table_is i).id.0 es') ∙ (tells.horizon ∙ (k.horizon ∙ sym horizon));
    held = subst (λ (t : Table). HeldKept b es' t.id.0 hs') (sym table_is) held;
    batches = tied_held es' g.table.id.0 g'.batches.items hs' tied;
    phases = subst (λ (t : Table). AreInPhase es' t.id.0 g'.batches.items hs') (sym table_is) (tied_phases es' g.table.id.0 g'.batches.items hs' tied);
    points = λ seat s. (λ i. open_points seat (table_is i).id.0 s es') ∙ (tells.points seat s ∙ (k.points seat s ∙ (λ i. points_in seat s (sym points i).items)));
  }

-- 3. Steps without an entry

pub held_done : (es : List Entry) (t : ℕ) (h : HeldBatch) (d v : ℕ) → IsHeldBatch es t h → IsHeldBatch es t (record h { done = d; verified = v })
held_done es t h d v k = record { batch = k.batch; is = k.is; changes = k.changes; written = k.written; running = k.running; met_from = k.met_from; met_to = k.met_to; counted = k.counted }

kept_done : (b : Base) (es : List Entry) (t : ℕ) (hs : List HeldBatch) (m d v : ℕ) → m < length hs → HeldKept b es t hs → HeldKept b es t (set hs m (record (get_or hs m no_held) { done = d; verified = v }))
kept_done b es t hs m d v l k = record {
  rising = rising_set (b.last t) hs m (record (get_or hs m no_held) { done = d; verified = v }) refl k.rising;
  each = all_set (IsHeldBatch es t) hs m (record (get_or hs m no_held) { done = d; verified = v }) (held_done es t (get_or hs m no_held) d v (each_at (IsHeldBatch es t) hs m l k.each)) k.each;
  all = λ u y q n. in_set u hs m (record (get_or hs m no_held) { done = d; verified = v }) refl ∙ k.all u y q n;
}

module _ (b : Base) (es : List Entry) (g g' : Group) (hs : List HeldBatch) (k : IsTallied b es g hs) (m : ℕ) where
  abbrev t : ℕ
  t = g.table.id.0

  abbrev held : HeldBatch
  held = get_or hs m no_held

  pub ties : AreTied es t g.batches.items hs
  ties = to_tied es t g.batches.items hs k.batches k.phases

  module _ (x : Begun) (x' : Begun) (s : IsBatchStep g g' m x x') (still : AreStill g g') where
    pub tie : (m < length hs) × IsTied es t x held
    tie = tied_at es t g.batches.items hs ties m x s.batch

    pub goes_on : (d v : ℕ) → IsHeldAs x'.batch (record held { done = d; verified = v }) → x'.phase ≡ x.phase → x'.count ≡ x.count → IsTallied b es g' (set hs m (record held { done = d; verified = v }))
    goes_on d v like phase count =
        let p = tie.1.1 in
        let now : IsInPhase es t x' (record held { done = d; verified = v }) = record { batch = p.batch; is = p.is; phase = p.phase ∙ ap as_phase (sym phase); count = p.count ∙ sym count } in
        tallied_on b es es g g' hs (set hs m (record held { done = d; verified = v })) still s.points s.last s.horizon (tells_same b es t) k
        (kept_done b es t hs m d v tie.0 k.held)
        (subst (λ (l : List Begun). AreTied es t l (set hs m (record held { done = d; verified = v }))) (sym s.batches) (tied_set es t g.batches.items hs ties m x' (record held { done = d; verified = v }) (like, now)))

  pub tallied_marks : {D : Type 0} (d : Ghosts D) (disk disk' : D) → HandsMarks d g g' disk disk' m → IsTallied b es g' (set hs m (record held { done = held.done + 1; verified = held.verified }))
  tallied_marks d disk disk' h =
      let x' : Begun = record h.batch { batch = record h.batch.batch { marks = h.rest } } in
      let still = still_index g g' m h.place h.batch x' h.index h.region h.step in
      let at = tie h.batch x' h.step.step still in
      goes_on h.batch x' h.step.step still (held.done + 1) held.verified (marked h.batch.batch held at.1.0 h.parts h.rest h.kept) refl refl

  pub tallied_closes : {D : Type 0} (d : Ghosts D) (disk disk' : D) → HandsCloses d g g' disk disk' m → IsTallied b es g' (set hs m (record held { done = held.done; verified = held.verified + 1 }))
  tallied_closes d disk disk' h =
      let x' : Begun = record h.batch { batch = record h.batch.batch { closes = h.rest } } in
      let still = still_index g g' m h.place h.batch x' h.index h.region h.step in
      let at = tie h.batch x' h.step.step still in
      goes_on h.batch x' h.step.step still held.done (held.verified + 1) (verified h.batch.batch held at.1.0 h.parts h.rest h.kept) refl refl

-- 4. Steps with an entry

-- no row is written where none is, and none is left where all are
all_left : (cs : List Change) (ws : List (List Value)) → ((r : List Value) → has ws r ≡ false) → cs ≢ [] → filter (λ r. not (has ws r)) (rows_of cs) ≡ [] → ⊥
all_left [] ws f n q = n refl
all_left (c ∷ cs) ws f n q = cons_nil (rw (f c.row) at q)
  where
    cons_nil : {A : Type 0} {x : A} {xs : List A} → x ∷ xs ≡ [] → ⊥
    cons_nil z = cc

or_right : (b v : Bool) → v ≡ true → (b || v) ≡ true
or_right true v e = refl
or_right false v e = e

none_left : (cs : List Change) (ws rows : List (List Value)) → ((r : List Value) → has (rows_of cs) r ≡ true → has rows r ≡ true) → filter (λ r. not (has (ws ++ rows) r)) (rows_of cs) ≡ []
unfolding has
none_left [] ws rows f = refl
none_left (c ∷ cs) ws rows f =
    (let here : has rows c.row ≡ true = f c.row (ap (λ (v : Bool). v || has (rows_of cs) c.row) ((row_order-Decides c.row c.row).1 refl)) in
    let w : has (ws ++ rows) c.row ≡ true = has-append ws rows c.row ∙ or_right (has ws c.row) (has rows c.row) here in
    let z = none_left cs ws rows (λ r h. f r (or_right (is_eq (row_order c.row r)) (has (rows_of cs) r) h)) in
    ap (λ (v : Bool). cond (not v) (c.row ∷ filter (λ r. not (has (ws ++ rows) r)) (rows_of cs)) (filter (λ r. not (has (ws ++ rows) r)) (rows_of cs))) w ∙ z)

stage_some : (p : Phase) (n : ℕ) (o : BatchData) → p ≡ Marking → FitsPhase p n o → is_some o.puts ≡ true
stage_some Marking n o e s = s.0
stage_some Writing n o e s = cc
stage_some Verifying n o e s = cc
stage_some Closing n o e s = cc

module _ (b : Base) (es : List Entry) (e : Entry) (g g' : Group) (hs : List HeldBatch) (k : IsTallied b es g hs) (m : ℕ) (x : Begun) (at : slice_get g.batches.items m ≡ Some x) where
  abbrev id : ℕ
  id = g.table.id.0

  abbrev own : HeldBatch
  own = get_or hs m no_held

  abbrev pair : (m < length hs) × IsTied es id x own
  pair = tied_at es id g.batches.items hs (to_tied es id g.batches.items hs k.batches k.phases) m x at

  abbrev told : Batch
  told = pair.1.1.batch

  abbrev only : IsAlone own.stamp m hs
  only = alone (b.last id) hs k.held.rising m pair.0

  abbrev known : IsHeldBatch es id own
  known = each_at (IsHeldBatch es id) hs m pair.0 k.held.each

  same_told : told ≡ known.batch
  same_told = same_batch (sym pair.1.1.is ∙ known.is)

  changes_told : told.changes ≡ x.batch.changes
  changes_told = ap (λ (y : Batch). y.changes) same_told ∙ (known.changes ∙ pair.1.0.changes)

  stays : (y : Batch) → TakesOn es e id own.stamp told y → (z : Begun) (h : HeldBatch) → (own.stamp ≡ h.stamp → ⊥) → IsTied es id z h → IsTied (es ++ e ∷ []) id z h
  stays y k z h n p = (p.0, record { batch = p.1.batch; is = k.there h.stamp n ∙ p.1.is; phase = p.1.phase; count = p.1.count })

  module _ (still : AreStill g g') (s : (x' : Begun) × IsBatchStep g g' m x x') where
    phase_on : (p : ℕ) → told.ended ≡ false → e.act ≡ PhaseDone g.table.id own.stamp p → s.0.batch ≡ x.batch → s.0.count ≡ x.count → phase_of (record told { phase = p }) ≡ as_phase s.0.phase → IsTallied b (es ++ e ∷ []) g' hs
    phase_on p running a same count phase =
        let takes = takes_phase g.table.id own.stamp es e told pair.1.1.is p a in
        let now : IsTied (es ++ e ∷ []) id s.0 own = (subst (λ (o : BatchData). IsHeldAs o own) (sym same) pair.1.0, record { batch = record told { phase = p }; is = takes.now; phase = phase; count = pair.1.1.count ∙ sym count }) in
        tallied_on b es (es ++ e ∷ []) g g' hs hs still s.1.points s.1.last s.1.horizon (tells_phase b es e id g.table.id own.stamp p a) k
        (held_after_phase b es e id own.stamp told (record told { phase = p }) takes running (λ r. refl) running hs k.held)
        (subst (λ (l : List Begun). AreTied (es ++ e ∷ []) id l hs) (sym s.1.batches)
        (subst (λ (l : List HeldBatch). AreTied (es ++ e ∷ []) id (set g.batches.items m s.0) l) (map_same hs)
        (tied_map es (es ++ e ∷ []) id own.stamp (λ h. h) (stays (record told { phase = p }) takes) g.batches.items hs (to_tied es id g.batches.items hs k.batches k.phases) m s.0 only now)))

module _ (b : Base) (es : List Entry) (e : Entry) (g g' : Group) (hs : List HeldBatch) (r : IsRightGroup g) (k : IsTallied b es g hs) (m : ℕ) where
  pub tallied_marked : FinishesMarks g g' m → e.act ≡ PhaseDone g.table.id (get_or hs m no_held).stamp 1 → IsTallied b (es ++ e ∷ []) g' hs
  tallied_marked h a =
      let x = h.batch in
      let at = h.step.step.batch in
      let y = told b es e g g' hs k m x at in
      let p = pair b es e g g' hs k m x at in
      let q = known b es e g g' hs k m x at in
      let w = in_marking y (p.1.1.phase ∙ ap as_phase h.marking) in
      let whole = all_at (IsRightBatch g) g.batches.items m x at r.batches in
      let some : is_some x.batch.puts ≡ true = stage_some x.phase x.count x.batch h.marking whole.stage in
      let unwrote : (v : List Value) → has y.written v ≡ false = λ v. ap (λ (z : Batch). has z.written v) (same_told b es e g g' hs k m x at) ∙ (q.written v ∙ (p.1.0.written v ∙ ap (λ c. not c && has (rows_of x.batch.changes) v) some)) in
      let left : unwritten y ≢ [] = λ z. all_left y.changes y.written unwrote (λ n. whole.some (sym (changes_told b es e g g' hs k m x at) ∙ n)) z in
      phase_on b es e g g' hs k m x at (still_quiet g g' h.step.step.table h.step.indexes) (record x { phase = Writing }, h.step.step) 1 w.0 a refl refl
      ((λ i. if w.0 i then trail.Over else phase_after 1 (unwritten y)) ∙ after-writing (unwritten y) left)

  pub tallied_verified : FinishesCloses g g' m → e.act ≡ PhaseDone g.table.id (get_or hs m no_held).stamp 3 → IsTallied b (es ++ e ∷ []) g' hs
  tallied_verified h a =
      let x = h.batch in
      let at = h.step.step.batch in
      let y = told b es e g g' hs k m x at in
      let p = pair b es e g g' hs k m x at in
      let w = in_verifying y (p.1.1.phase ∙ ap as_phase h.verifying) in
      phase_on b es e g g' hs k m x at (still_quiet g g' h.step.step.table h.step.indexes) (record x { phase = Closing }, h.step.step) 3 w.0 a refl refl
      (λ i. if w.0 i then trail.Over else phase_after 3 (unwritten y))

  pub tallied_wrote : {D : Type 0} (d : Ghosts D) (disk disk' : D) → (h : WrotePuts d g g' disk disk' m) → e.act ≡ Wrote g.table.id (get_or hs m no_held).stamp (rows_of h.hands.batch.batch.changes) → IsTallied b (es ++ e ∷ []) g' (held_wrote (get_or hs m no_held).stamp (rows_of h.hands.batch.batch.changes) hs)
  tallied_wrote d disk disk' h a =
      let x = h.hands.batch in
      let step = h.hands.step in
      let at = step.step.batch in
      let t = g.table.id.0 in
      let own = get_or hs m no_held in
      let rows = rows_of x.batch.changes in
      let y = told b es e g g' hs k m x at in
      let p = pair b es e g g' hs k m x at in
      let w = in_writing y (p.1.1.phase ∙ ap as_phase h.hands.writing) in
      let takes = takes_wrote g.table.id own.stamp es e y p.1.1.is rows a in
      let whole : (v : List Value) → has (rows_of y.changes) v ≡ true → has rows v ≡ true = λ v c. sym (ap (λ (cs : List Change). has (rows_of cs) v) (changes_told b es e g g' hs k m x at)) ∙ c in
      let written : unwritten (record y { written = y.written ++ rows }) ≡ [] = none_left y.changes y.written rows whole in
      let like : IsHeldAs (record x.batch { puts = None }) (writes_rows own.stamp rows own) = subst (λ (cs : List Change). IsHeldAs (record x.batch { puts = None }) (writes_rows own.stamp (rows_of cs) own)) p.1.0.changes (wrote x.batch own p.1.0 h.hands.parts h.hands.kept) in
      let x' : Begun = record x { phase = Verifying; batch = record x.batch { puts = None }; rows = None } in
      let now : IsTied (es ++ e ∷ []) t x' (writes_rows own.stamp rows own) = (
        like,
        record {
          batch = record y { written = y.written ++ rows };
          is = takes.now;
          phase = (λ i. if w.0 i then trail.Over else phase_after (w.1 i) (unwritten (record y { written = y.written ++ rows }))) ∙ after-verifying (unwritten (record y { written = y.written ++ rows })) written;
          count = p.1.1.count;
        },
      ) in
      let others : (z : Begun) (v : HeldBatch) → (own.stamp ≡ v.stamp → ⊥) → IsTied es t z v → IsTied (es ++ e ∷ []) t z (writes_rows own.stamp rows v) = λ z v n o. (other_wrote z.batch v o.0 own.stamp rows (λ c. n (sym c)), record { batch = o.1.batch; is = takes.there v.stamp n ∙ o.1.is; phase = o.1.phase; count = o.1.count }) in
      tallied_on b es (es ++ e ∷ []) g g' hs (held_wrote own.stamp rows hs) (still_quiet g g' step.step.table step.indexes) step.step.points step.step.last step.step.horizon (tells_wrote b es e t g.table.id own.stamp rows a) k
      (held_after_wrote b es e t own.stamp y (record y { written = y.written ++ rows }) takes w.0 rows refl w.0 hs k.held)
      (subst (λ (l : List Begun). AreTied (es ++ e ∷ []) t l (held_wrote own.stamp rows hs)) (sym step.step.batches)
      (tied_map es (es ++ e ∷ []) t own.stamp (writes_rows own.stamp rows) others g.batches.items hs (to_tied es t g.batches.items hs k.batches k.phases) m x' (only b es e g g' hs k m x at) now))

module _ (b : Base) (es : List Entry) (e : Entry) (g g' : Group) (hs : List HeldBatch) (k : IsTallied b es g hs) (m : ℕ) where
  pub tallied_ended : (x : Begun) → LetsGo g g' m x → e.act ≡ Ended g.table.id (get_or hs m no_held).stamp → IsTallied b (es ++ e ∷ []) g' (held_ended (get_or hs m no_held).stamp hs)
  tallied_ended x l a =
      let t = g.table.id.0 in
      let own = get_or hs m no_held in
      let y = told b es e g g' hs k m x l.batch in
      let p = pair b es e g g' hs k m x l.batch in
      let q = known b es e g g' hs k m x l.batch in
      let running : y.ended ≡ false = ap (λ (z : Batch). z.ended) (same_told b es e g g' hs k m x l.batch) ∙ q.running in
      let takes = takes_ended g.table.id own.stamp es e y p.1.1.is a in
      tallied_on b es (es ++ e ∷ []) g g' hs (held_ended own.stamp hs) (still_quiet g g' l.table l.indexes) l.points l.last l.horizon (tells_ended b es e t g.table.id own.stamp a) k
      (held_after_ended b es e t own.stamp y (record y { ended = true }) takes running refl hs k.held)
      (subst (λ (xs : List Begun). AreTied (es ++ e ∷ []) t xs (held_ended own.stamp hs)) (sym l.batches)
      (tied_removed es (es ++ e ∷ []) t own.stamp (stays b es e g g' hs k m x l.batch (record y { ended = true }) takes) g.batches.items hs (to_tied es t g.batches.items hs k.batches k.phases) m (only b es e g g' hs k m x l.batch) refl p.0))
