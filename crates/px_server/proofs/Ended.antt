-- A batch ends, or is given up.
use Rattle.std.proofs.Common.{◌≡◌, ◌≢◌, ◌⊎◌, ◌==◌, ◌||◌, ◌&&◌, inl, inr, ℕ, zero, suc, Bool, true, false, if◌then◌else◌, Option, Some, None, List, [], ◌∷◌, ◌++◌, get_or, refl, sym, ap, subst, ◌∙◌, arith}
use Rattle.std.specs.Prelude.{filter, not, remove, slice_get}
use Rattle.std.specs.List.{list_any}
use Rattle.std.proofs.lemmas.Bool.{cases_eq, eq-eqb, false≢true, ne_eqb}
use Rattle.px_outside.specs.declared.disk.Disk.{Ghosts}
use Rattle.px_values.specs.declared.change.Change.{Change}
use Rattle.px_values.specs.declared.name.TableId.{TableId}
use Rattle.px_tables.specs.declared.table.Table.{Table}
use Rattle.px_trail.specs.declared.entry.Act.{Act}
use Rattle.px_trail.specs.declared.entry.Act.TheVariants.{Ended}
use Rattle.px_trail.specs.declared.entry.Entry.{Entry}
use Rattle.px_trail.specs.Batches.{Batch, IsBatchIn, IsSoundBatch, IsSoundOption, batch_of, batch_step, change_of, has, phase_of, rows_of, unwritten}
use Rattle.px_trail.specs.Batches as trail
use Rattle.px_trail.specs.Legal.{IsEndable, IsLegal, MayCome}
use Rattle.px_trail.specs.Trail.{Base, open_points, points_step}
use Rattle.px_trail.proofs.Batches.{batch-sound, in_closing, in_marking, in_verifying, in_writing}
use Rattle.px_trail.proofs.Growth.{batch_of-snoc, points-snoc}
use Rattle.px_trail.proofs.Orders.{WritesNone}
use Rattle.px_forms.specs.Indexes.{IndexForm}
use Rattle.px_indexed.specs.Worlds.{change_event}
use Rattle.px_world.specs.Events.{End}
use Rattle.px_groupworld.specs.Group.{GroupData}
use Rattle.px_groupworld.specs.Steps.{ended_data}
use Rattle.px_openbatches.specs.Pending.{HeldBatch, held_ended}
use Rattle.px_phases.specs.Batch.{BatchData}
use Rattle.px_region.specs.Region.{RegionHolds}
use Rattle.px_region.specs.declared.region.Region.{Region}
use Rattle.px_tablesteps.specs.Kept.{no_held}
use Rattle.px_group.specs.Group.{AreTraced, FitsPhase, IsRightBatch, IsRightGroup, IsShownBy, IsTallied, as_phase, form_of, points_in}
use Rattle.px_group.specs.declared.group.Begun.{Begun}
use Rattle.px_group.specs.declared.group.Group.{Group}
use Rattle.px_group.specs.declared.group.Phase.{Phase}
use Rattle.px_group.specs.declared.group.Phase.TheVariants.{Closing, Marking, Verifying, Writing}
use Rattle.px_batching.specs.Steps.{LetsGo}
use Rattle.px_batching.proofs.Gone.{right_gone}
use Rattle.px_batching.proofs.May.{stamp_is}
use Rattle.px_batching.proofs.Places.{all_at as at_place}
use Rattle.px_batching.proofs.Shown.{ended_shown, ended_steps}
use Rattle.px_batching.proofs.Tallied.{tallied_ended}
use Rattle.px_batching.proofs.Traced.{traced_ended, traced_gone}
use Rattle.px_defined.specs.Defined.{AreOnceIn, HasOnce}
use Rattle.px_reading.specs.Doubts.{IsToldBy}
use Rattle.px_recovery.specs.Folder.{FolderData}
use Rattle.px_server.specs.Kept.{AreBuilt, HasBegun, HasPoints, HasTallied, IsOnDisk}
use Rattle.px_server.proofs.Acted.{HasMoved, IsActed}
use Rattle.px_server.proofs.Built.{IsUnbased, built_table, built_told, run_change}
use Rattle.px_server.proofs.OpenBatches.{phase_told}
use Rattle.px_server.proofs.Told.{told_own}

-- ---- the batch in the trail

-- it is this seat's, written, and hasn't ended
pub record IsWrittenBatch (es : List Entry) (seat t s : ℕ) : Type 0 where
  pub batch : Batch
  pub is : batch_of t s es ≡ Some batch
  pub running : batch.ended ≡ false
  pub written : unwritten batch ≡ []

pub written_batch : (b : Base) (es : List Entry) → IsLegal b es → (seat t s : ℕ) → IsEndable es seat t s → IsWrittenBatch es seat t s
written_batch b es legal seat t s (inl i) =
    let c = in_closing i.batch i.phase in
    record { batch = i.batch; is = i.is; running = c.0; written = (subst IsSoundOption i.is (batch-sound b t s es legal)).verified c.1 }
written_batch b es legal seat t s (inr i) =
    let v = in_verifying i.1.batch i.1.phase in
    record { batch = i.1.batch; is = i.1.is; running = v.0; written = v.2 }

-- its rows aren't written where it is given up
pub record IsLeftBatch (es : List Entry) (t s : ℕ) : Type 0 where
  pub batch : Batch
  pub is : batch_of t s es ≡ Some batch
  pub left : unwritten batch ≢ []

none_written : (cs : List Change) → cs ≢ [] → filter (λ r. not (has [] r)) (rows_of cs) ≢ []
unfolding has
none_written [] h = absurd (h refl)
none_written (c ∷ cs) h = λ n. cc

pub left_batch : (b : Base) (es : List Entry) → IsLegal b es → (seat t s : ℕ) → IsBatchIn es seat t s trail.Marking ⊎ IsBatchIn es seat t s trail.Writing → IsLeftBatch es t s
left_batch b es legal seat t s (inl i) =
    let m = in_marking i.batch i.phase in
    let sound : IsSoundBatch i.batch = subst IsSoundOption i.is (batch-sound b t s es legal) in
    record { batch = i.batch; is = i.is; left = λ n. none_written i.batch.changes sound.some (ap (λ ws. filter (λ r. not (has ws r)) (rows_of i.batch.changes)) (sym (sound.unmarked m.1)) ∙ n) }
left_batch b es legal seat t s (inr i) = record { batch = i.batch; is = i.is; left = (in_writing i.batch i.phase).2 }

-- ---- one act more

same_some : {A : Type 0} (x y : A) → Some x ≡ Some y → x ≡ y
same_some x y e = cc

some_none : {A : Type 0} (x : A) → None ≡ Some x → ⊥
some_none x e = cc

ends_step : (t : TableId) (s seat : ℕ) (z : Batch) → batch_step t.0 s (Some z) seat (Ended t s) ≡ Some (record z { ended = true })
unfolding batch_step
ends_step t s seat z = ap (λ v. if v && (s == s) then Some (record z { ended = true }) else Some z) (eq-eqb t.0 t.0 refl) ∙ ap (λ v. if v then Some (record z { ended = true }) else Some z) (eq-eqb s s refl)

ends_other : (t : TableId) (u s seat : ℕ) (o : Option Batch) → u ≢ s → batch_step t.0 s o seat (Ended t u) ≡ o
unfolding batch_step
ends_other t u s seat None other = refl
ends_other t u s seat (Some z) other = ap (λ v. if v && (u == s) then Some (record z { ended = true }) else Some z) (eq-eqb t.0 t.0 refl) ∙ ap (λ v. if v then Some (record z { ended = true }) else Some z) (ne_eqb u s other)

none_ends : (t : TableId) (s seat : ℕ) → None ≡ batch_step t.0 s None seat (Ended t s)
unfolding batch_step
none_ends t s seat = refl

ended_true : (t : TableId) (s seat : ℕ) (o : Option Batch) (y : Batch) → batch_step t.0 s o seat (Ended t s) ≡ Some y → y.ended ≡ true
ended_true t s seat None y is = absurd (some_none y (none_ends t s seat ∙ is))
ended_true t s seat (Some z) y is = (let same : record z { ended = true } ≡ y = same_some (record z { ended = true }) y (sym (ends_step t s seat z) ∙ is) in ap (λ (w : Batch). w.ended) (sym same))

-- the batch after its end
pub ended_is : (es : List Entry) (e : Entry) (t : TableId) (s : ℕ) (y : Batch) → e.act ≡ Ended t s → batch_of t.0 s es ≡ Some y → batch_of t.0 s (es ++ e ∷ []) ≡ Some (record y { ended = true })
ended_is es e t s y act is = batch_of-snoc t.0 s es e ∙ (ap (λ (a : Act). batch_step t.0 s (batch_of t.0 s es) e.seat a) act ∙ (ap (λ (o : Option Batch). batch_step t.0 s o e.seat (Ended t s)) is ∙ ends_step t s e.seat y))

-- ---- the group without the batch

any_on : (v rest fewer : Bool) → (rest ≡ true → fewer ≡ true) → (v || rest) ≡ true → (v || fewer) ≡ true
any_on true rest fewer f any = refl
any_on false rest fewer f any = f any

any_left : (s : ℕ) (ms : List Begun) (m : ℕ) (x : Begun) → slice_get ms m ≡ Some x → x.batch.stamp ≢ s → list_any (λ z. z.batch.stamp == s) ms ≡ true → list_any (λ z. z.batch.stamp == s) (remove ms m) ≡ true
any_left s [] m x is other any = absurd (false≢true any)
any_left s (z ∷ ms) zero x is other any =
    let own : z.batch.stamp ≡ x.batch.stamp = ap (λ (w : Begun). w.batch.stamp) (same_some z x is) in
    sym (ap (λ v. v || list_any (λ w. w.batch.stamp == s) ms) (ne_eqb z.batch.stamp s (λ e. other (sym own ∙ e)))) ∙ any
any_left s (z ∷ ms) (suc m) x is other any = any_on (z.batch.stamp == s) (list_any (λ w. w.batch.stamp == s) ms) (list_any (λ w. w.batch.stamp == s) (remove ms m)) (any_left s ms m x is other) any

module _ {D : Type 0} (d : Ghosts D) (disk : D) (g g' : Group) (m : ℕ) (x : Begun) (goes : LetsGo g g' m x) where
  abbrev s : ℕ
  s = x.batch.stamp

  begun_left : (es : List Entry) → HasBegun es g → (u : ℕ) → s ≢ u → (y : Batch) → batch_of g.table.id.0 u es ≡ Some y → y.ended ≡ false → unwritten y ≡ [] → list_any (λ z. z.batch.stamp == u) g'.batches.items ≡ true
  begun_left es k u other y is running written = subst (λ (ms : List Begun). list_any (λ z. z.batch.stamp == u) ms ≡ true) (sym goes.batches) (any_left u g.batches.items m x goes.batch other (k u y is running written))

  once_left : HasOnce g → HasOnce g'
  once_left k = subst (λ v. AreOnceIn v.items) (sym goes.indexes) k

  disk_left : (f : FolderData) → IsOnDisk d disk f g → IsOnDisk d disk f g'
  disk_left f on = record {
    rows = subst (λ (r : Region). RegionHolds d r disk (f.regions r.number)) (sym goes.rows) on.rows;
    indexes = λ i y at. on.indexes i y (ap (λ v. slice_get v.items i) (sym goes.indexes) ∙ at);
  }

  -- ---- it ends

  module _ (b : Base) (es : List Entry) (e : Entry) (may : MayCome b es e) (act : e.act ≡ Ended g.table.id s) where
    abbrev es' : List Entry
    es' = es ++ e ∷ []

    ended_points : HasPoints es g → HasPoints es' g'
    unfolding points_step
    ended_points k seat u =
        ap (λ (t : Table). open_points seat t.id.0 u es') goes.table ∙ (points-snoc seat g.table.id.0 u es e ∙ (ap (points_step seat g.table.id.0 u (open_points seat g.table.id.0 u es) e.seat) act
        ∙ (k seat u ∙ ap (λ ps. points_in seat u ps.items) (sym goes.points))))

    ended_begun : HasBegun es g → HasBegun es' g'
    ended_begun k u y is running written = elim (cases_eq s u) [
      | inl same ↦ absurd (false≢true (sym running ∙ ended_true g.table.id u e.seat (batch_of g.table.id.0 u es) y (ap (λ (n : ℕ). batch_step g.table.id.0 u (batch_of g.table.id.0 u es) e.seat (Ended g.table.id n)) (sym same) ∙ stepped)))
      | inr other ↦ begun_left es k u other y (sym (ends_other g.table.id s u e.seat (batch_of g.table.id.0 u es) other) ∙ stepped) running written
    ]
      where
        stepped : batch_step g.table.id.0 u (batch_of g.table.id.0 u es) e.seat (Ended g.table.id s) ≡ Some y
        stepped = ap (λ (a : Act). batch_step g.table.id.0 u (batch_of g.table.id.0 u es) e.seat a) (sym act) ∙ (sym (batch_of-snoc g.table.id.0 u es e) ∙ (ap (λ (t : Table). batch_of t.id.0 u es') (sym goes.table) ∙ is))

    module _ (hs : List HeldBatch) (k : IsTallied b es g hs) where
      act_held : e.act ≡ Ended g.table.id (get_or hs m no_held).stamp
      act_held = act ∙ ap (λ (n : ℕ). Ended g.table.id n) (sym (stamp_is b es g hs k m x goes.batch))

      ended_tallied : IsTallied b es' g' (held_ended (get_or hs m no_held).stamp hs)
      ended_tallied = tallied_ended b es e g g' hs k m x goes act_held

      ended_moved : IsRightGroup g → x.batch.marks ≡ [] → (index : ℕ → IndexForm) (v : GroupData) → IsShownBy b index es g v hs → IsToldBy b index es g v → AreBuilt (form_of b index g) es v → HasMoved b index es' g' v
      ended_moved right none index v shown told built =
          let w = ended_data (get_or hs m no_held).stamp v in
          let shown' : IsShownBy b index es' g' w (held_ended (get_or hs m no_held).stamp hs) = ended_shown b index es g g' v hs right k shown m x goes none e may act_held in
          record {
            after = w;
            held = held_ended (get_or hs m no_held).stamp hs;
            tallied = ended_tallied;
            shown = shown';
            told = told_own b index es g g' v w hs (held_ended (get_or hs m no_held).stamp hs) shown told e (subst WritesNone (sym act) tt) goes.table shown' refl refl (λ i y at. told.own i y (ap (λ n. slice_get n.items i) (sym goes.indexes) ∙ at));
            built = built_table b index es' w g.table g'.table (sym goes.table)
                (built_told (form_of b index g) es v shown.kept.group (λ i q. change_event (End (get_or hs m no_held).stamp) (change_of (get_or hs m no_held).changes q)) e w (ended_steps b index es g g' v hs right k shown m x goes none e may act_held).does
                (λ i q. run_change (End (get_or hs m no_held).stamp) tt (change_of (get_or hs m no_held).changes q)) (λ i l. refl) (λ n. subst (IsUnbased n) (sym act) tt) built);
            high = omega arith;
            low = refl;
            cells = refl;
            indexes = refl;
          }

    pub ended_acted : (closed : Option ℕ) → HasPoints es g → (closed ≡ None → IsRightGroup g) → (closed ≡ None → HasTallied b es g) → (closed ≡ None → HasOnce g) → ((call : ℕ) → closed ≡ Some call → AreTraced es g) → ((call : ℕ) → closed ≡ Some call → HasBegun es g)
        → (closed ≡ None → x.batch.marks ≡ []) → IsActed d disk b es es' closed g g'
    ended_acted closed points right tallied once traced begun marks = record {
      table = goes.table;
      points = ended_points points;
      right = λ running. right_gone g g' m x goes (right running);
      tallied = λ running. (let t = tallied running in record { held = held_ended (get_or t.held m no_held).stamp t.held; tallied = ended_tallied t.held t.tallied });
      once = λ running. once_left (once running);
      traced = λ call shut. traced_ended es e g g' m x goes act (traced call shut);
      begun = λ call shut. ended_begun (begun call shut);
      shown = λ running index v hs k shown told built. ended_moved hs k (right running) (marks running) index v shown told built;
      on_disk = λ running. disk_left;
    }

  -- ---- it is given up in a closed server

  module _ (b : Base) (es : List Entry) (left : IsLeftBatch es g.table.id.0 s) where
    left_points : HasPoints es g → HasPoints es g'
    left_points k seat u = ap (λ (t : Table). open_points seat t.id.0 u es) goes.table ∙ (k seat u ∙ ap (λ ps. points_in seat u ps.items) (sym goes.points))

    gone_begun : HasBegun es g → HasBegun es g'
    gone_begun k u y is running written = elim (cases_eq s u) [
      | inl same ↦ absurd (left.left (ap unwritten (same_some left.batch y (sym left.is ∙ (ap (λ (n : ℕ). batch_of g.table.id.0 n es) same ∙ own))) ∙ written))
      | inr other ↦ begun_left es k u other y own running written
    ]
      where
        own : batch_of g.table.id.0 u es ≡ Some y
        own = ap (λ (t : Table). batch_of t.id.0 u es) (sym goes.table) ∙ is

    pub gone_acted : (closed : Option ℕ) (call : ℕ) → closed ≡ Some call → HasPoints es g → AreTraced es g → HasBegun es g → IsActed d disk b es es closed g g'
    gone_acted closed call shut points traced begun =
        let not : closed ≡ None → ⊥ = λ running. some_none call (sym running ∙ shut) in
        record {
          table = goes.table;
          points = left_points points;
          right = λ running. absurd (not running);
          tallied = λ running. absurd (not running);
          once = λ running. absurd (not running);
          traced = λ c is. traced_gone es g g' m x goes traced;
          begun = λ c is. gone_begun begun;
          shown = λ running index v hs k shown told built. absurd (not running);
          on_disk = λ running f on. absurd (not running);
        }

-- ---- where it is in its last phase, no mark is left

pub none_marked : (p : Phase) → as_phase p ≡ trail.Closing → (count : ℕ) (bd : BatchData) → FitsPhase p count bd → bd.marks ≡ []
none_marked Marking is count bd stage = absurd cc
none_marked Writing is count bd stage = absurd cc
none_marked Verifying is count bd stage = absurd cc
none_marked Closing is count bd stage = stage.1

module _ (b : Base) (es : List Entry) (g : Group) (hs : List HeldBatch) (right : IsRightGroup g) (k : IsTallied b es g hs) (m : ℕ) (x : Begun) (at : slice_get g.batches.items m ≡ Some x) (y : Batch) (is : batch_of g.table.id.0 x.batch.stamp es ≡ Some y) where
  pub no_marks : phase_of y ≡ trail.Closing → x.batch.marks ≡ []
  no_marks closing =
      let i = phase_told b es g hs k m x at in
      let own : y ≡ i.0 = same_some y i.0 (sym is ∙ i.1.0) in
      none_marked x.phase (sym i.1.1 ∙ (ap phase_of (sym own) ∙ closing)) x.count x.batch (at_place (IsRightBatch g) g.batches.items m x at right.batches).stage
