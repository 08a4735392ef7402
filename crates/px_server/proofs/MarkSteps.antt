-- A batch marks an index, or closes its marks at one: the server then.
use Rattle.std.proofs.Common.{◌≡◌, ◌≢◌, ◌<◌, ◌≤◌, ◌+◌, inl, inr, ℕ, Option, Some, None, Result, Ok, List, [], ◌∷◌, ◌++◌, length, get_or, map, slice_get, refl, sym, ap, subst, ◌∙◌, arith}
use Rattle.std.specs.Prelude.{IsTrue}
use Rattle.std.specs.List.{slice_set}
use Rattle.std.proofs.lemmas.List.{get_or-set_same, length-set, set-get_or, set-set}
use Rattle.px_outside.specs.OnDisk.{Rose}
use Rattle.px_outside.specs.declared.disk.Disk.{Ghosts}
use Rattle.px_outside.specs.declared.disk.Failed.{Failed}
use Rattle.px_calls.specs.declared.ticket.Marks.{Marks}
use Rattle.px_calls.specs.declared.ticket.Marks.TheVariants as marks
use Rattle.px_calls.specs.declared.ticket.Verifies.{Verifies}
use Rattle.px_calls.specs.declared.ticket.Verifies.TheVariants as verifies
use Rattle.px_values.specs.declared.name.TableId.{TableId}
use Rattle.px_tables.specs.declared.table.Table.{Table}
use Rattle.px_trail.specs.declared.entry.Act.{Act}
use Rattle.px_trail.specs.declared.entry.Act.TheVariants.{Phase as PhaseDone}
use Rattle.px_trail.specs.declared.entry.Entry.{Entry}
use Rattle.px_trail.specs.Batches.{IsBatchIn}
use Rattle.px_trail.specs.Batches as batches
use Rattle.px_trail.specs.Lasting.{lasts_by}
use Rattle.px_trail.specs.Legal.{Follows, IsPhased, MayCome}
use Rattle.px_trail.specs.Recorded.{Recorded}
use Rattle.px_trail.specs.Trail.{Base, Catalogue, calls_of, catalogue_of, catalogue_step, closing_call, closing_step}
use Rattle.px_trail.proofs.Growth.{catalogue-snoc}
use Rattle.px_schema.specs.declared.standing.Standing.{Standing}
use Rattle.px_catalog.specs.declared.catalog.Catalog.{Catalog}
use Rattle.px_group.specs.Group.{IsRightGroup}
use Rattle.px_group.specs.declared.group.Begun.{Begun}
use Rattle.px_group.specs.declared.group.Group.{Group}
use Rattle.px_group.specs.declared.group.Phase.TheVariants.{Closing, Writing}
use Rattle.px_batching.specs.Known.{held_marked, held_verified}
use Rattle.px_batching.specs.Steps.{ClosesAll, FinishesCloses, FinishesMarks, HandsCloses, HandsMarks, IsBatchStep, Marked, MarksAll, Verified, WroteCloses, WroteMarks}
use Rattle.px_batching.proofs.After.{stands}
use Rattle.px_batching.proofs.Places.{same_at}
use Rattle.px_batching.proofs.Right.{right_closes, right_marks}
use Rattle.px_batching.proofs.Tallied.{tallied_closes, tallied_marks}
use Rattle.px_batching.proofs.Traced.{traced_closes, traced_marks}
use Rattle.px_noting.specs.Apart.{IsApartFrom}
use Rattle.px_recovery.proofs.Server.{newest_early}
use Rattle.px_server.specs.Kept.{HasTallied, IsKept, IsShutAt, number_in, owed, steps_of, tells_fault}
use Rattle.px_server.specs.Others.{Beginning}
use Rattle.px_server.proofs.Blamed.{blamed_quiet}
use Rattle.px_server.proofs.Built.{IsOfOwn}
use Rattle.px_server.proofs.Acted.{IsActed, acted, once_at, right_at, tallied_at}
use Rattle.px_server.proofs.Handed.{IsSameHorizon, index_handed, index_shut}
use Rattle.px_server.proofs.Marked.{closes_go, closes_show, closes_to, marks_go, marks_show, marks_to}
use Rattle.px_server.proofs.OpenBatches.{stamp_in, stamps_set}
use Rattle.px_server.proofs.Phased.{marked_acts, owed_step, verified_acts}

-- ---- one batch goes on

stamps_step : (g g' : Group) (m : ℕ) (x x' : Begun) → IsBatchStep g g' m x x' → x'.batch.stamp ≡ x.batch.stamp → map stamp_in g'.batches.items ≡ map stamp_in g.batches.items
stamps_step g g' m x x' s same = ap (map stamp_in) s.batches ∙ stamps_set g.batches.items m x x' s.batch same

-- ---- the entry of a phase

phase_still : (t : TableId) (s p : ℕ) (c : Catalogue) → catalogue_step c (PhaseDone t s p) ≡ c
unfolding catalogue_step
phase_still t s p c = refl

phase_unshut : (o : Option ℕ) (t : TableId) (s p : ℕ) → closing_step o (PhaseDone t s p) ≡ o
phase_unshut None t s p = refl
phase_unshut (Some call) t s p = refl

phase_apart : (a : Act) (t : TableId) (s p n : ℕ) → a ≡ PhaseDone t s p → t.0 ≡ n → (id : TableId) → id.0 ≢ n → IsApartFrom id a
phase_apart a t s p n is own id other = subst (λ (b : Act). IsApartFrom id b) (sym is) (λ same. other (sym same ∙ own))

phase_may : (b : Base) (es : List Entry) (e : Entry) (t : TableId) (s p : ℕ) → e.act ≡ PhaseDone t s p → IsPhased es e.seat t.0 s p → closing_call es ≡ None → calls_of es ≤ e.calls → MayCome b es e
unfolding Follows
phase_may b es e t s p is phased running calls = record {
  follows = subst (λ (a : Act). Follows b es e.seat e.calls a) (sym is) phased;
  shut = λ before. running;
  calls = calls;
}

module _ {D : Type 0} (d : Ghosts D) (tells_left : (x : D) (moment file : ℕ) (bytes : List ℕ) → d.left x moment file bytes → IsTrue d.tells)
    (up_to_now : (x : D) (moment file : ℕ) (bytes : List ℕ) → d.left x moment file bytes → moment ≤ d.calls x) (b : Base) (sound premise : Type 0) (began : Beginning) (disk : D) (catalog : Catalog) (standing : Standing) where
  -- no call, or those that went before, and then an entry tells that the phase is done
  module _ (groups : List Group) (trail : Recorded) (late : Option Entry) (closed : Option ℕ) (k : IsKept d b sound premise began disk catalog standing groups trail late closed) (running : closed ≡ None) (place : ℕ) (g g' : Group) (l : place < length groups) (is : get_or groups place g ≡ g) (m : ℕ)
      (e : Entry) (at : e.calls ≡ d.calls disk) (trail' : Recorded) (entries : trail'.entries ≡ trail.entries ++ e ∷ []) (room : trail'.room + 1 ≡ trail.room) where
    abbrev es : List Entry
    es = trail.entries

    early : calls_of es ≤ e.calls
    early = (let n = newest_early (d.calls disk) 0 es (omega arith) k.server.early in omega (arith, n, at))

    right : IsRightGroup g
    right = right_at d b sound premise began disk catalog standing groups trail late closed k place g l is running

    tallied : HasTallied b es g
    tallied = tallied_at d b sound premise began disk catalog standing groups trail late closed k place g l is running

    phase_told : (s p : ℕ) → e.act ≡ PhaseDone g.table.id s p → IsPhased es e.seat g.table.id.0 s p → (a : MayCome b es e → IsActed d disk b es (es ++ e ∷ []) closed g g') → owed g' + 1 ≤ owed g → IsKept d b sound premise began disk catalog standing (slice_set groups place g') trail' late closed
    phase_told s p act phased a less = (let
        may = phase_may b es e g.table.id s p act phased (k.told.closing ∙ running) early
        in acted d b sound premise began disk catalog standing groups trail late closed k place g l is tells_left up_to_now e at (ap lasts_by act) (blamed_quiet d disk trail.entries e (ap tells_fault act) k.blamed) may (ap (closing_step closed) act ∙ phase_unshut closed g.table.id s p)
        (catalogue-snoc b es e ∙ (ap (catalogue_step (catalogue_of b es)) act ∙ phase_still g.table.id s p (catalogue_of b es))) (phase_apart e.act g.table.id s p (number_in g) act refl) (subst (IsOfOwn b es (number_in g)) (sym act) tt) g' (a may) trail' entries (omega (arith, less, room)))

    marked_kept : (f : FinishesMarks g g' m) → e.act ≡ PhaseDone g.table.id f.batch.batch.stamp 1 → IsBatchIn es e.seat g.table.id.0 f.batch.batch.stamp batches.Marking → IsKept d b sound premise began disk catalog standing (slice_set groups place g') trail' late closed
    marked_kept f act phase =
        phase_told f.batch.batch.stamp 1 act (inl (refl, phase)) (λ may. marked_acts d disk b es closed running g g' right (once_at d b sound premise began disk catalog standing groups trail late closed k place g l is running) tallied m e may f act)
        (let o = owed_step g g' m f.batch (record f.batch { phase = Writing }) f.step.step in let p : steps_of f.batch.phase ≡ 4 = ap steps_of f.marking in omega (arith, o, p))

    verified_kept : (f : FinishesCloses g g' m) → e.act ≡ PhaseDone g.table.id f.batch.batch.stamp 3 → IsBatchIn es e.seat g.table.id.0 f.batch.batch.stamp batches.Verifying → IsKept d b sound premise began disk catalog standing (slice_set groups place g') trail' late closed
    verified_kept f act phase =
        phase_told f.batch.batch.stamp 3 act (inr (refl, phase)) (λ may. verified_acts d disk b es closed running g g' right (once_at d b sound premise began disk catalog standing groups trail late closed k place g l is running) tallied m e may f act)
        (let o = owed_step g g' m f.batch (record f.batch { phase = Closing }) f.step.step in let p : steps_of f.batch.phase ≡ 2 = ap steps_of f.verifying in omega (arith, o, p))

  -- ---- the calls

  module _ (groups : List Group) (trail : Recorded) (late : Option Entry) (closed : Option ℕ) (k : IsKept d b sound premise began disk catalog standing groups trail late closed) (running : closed ≡ None) (place : ℕ) (g g' : Group) (l : place < length groups) (is : get_or groups place g ≡ g) (m : ℕ) (disk' : D) where
    abbrev es' : List Entry
    es' = trail.entries

    abbrev right_now : IsRightGroup g
    right_now = right_at d b sound premise began disk catalog standing groups trail late closed k place g l is running

    -- an index is marked
    pub marks_kept : (w : WroteMarks d g g' disk disk' m) → IsSameHorizon w.hands.index.region w.hands.region → IsKept d b sound premise began disk' catalog standing (slice_set groups place g') trail late closed
    marks_kept w horizons = (let
        o = w.hands
        in index_handed d tells_left up_to_now b sound premise began disk catalog standing groups trail late closed k running place g g' l is disk' o.place o.index o.region o.cells (marks_to d b es' g g' disk disk' m o) o.writes w.written horizons
        (right_marks d g g' disk disk' m right_now w) (held_marked m) (λ hs t. tallied_marks b es' g g' hs t m d disk disk' o) (marks_show d b es' g g' disk disk' m right_now w)
        (let s = owed_step g g' m o.batch (record o.batch { batch = record o.batch.batch { marks = o.rest } }) o.step.step in omega (arith, s)))

    -- its marks are closed at an index
    pub closes_kept : (w : WroteCloses d g g' disk disk' m) → IsSameHorizon w.hands.index.region w.hands.region → IsKept d b sound premise began disk' catalog standing (slice_set groups place g') trail late closed
    closes_kept w horizons = (let
        o = w.hands
        in index_handed d tells_left up_to_now b sound premise began disk catalog standing groups trail late closed k running place g g' l is disk' o.place o.index o.region o.cells (closes_to d b es' g g' disk disk' m o) o.writes w.written horizons
        (right_closes d g g' disk disk' m right_now w) (held_verified m) (λ hs t. tallied_closes b es' g g' hs t m d disk disk' o) (closes_show d b es' g g' disk disk' m right_now w)
        (let s = owed_step g g' m o.batch (record o.batch { batch = record o.batch.batch { closes = o.rest } }) o.step.step in omega (arith, s)))

    -- a call failed
    module _ (shut : Entry) (call : ℕ) (shut-is : IsShutAt shut call) (shut_at : call ≡ d.calls disk') (rose : Rose d disk disk') (trail' : Recorded) (entries : trail'.entries ≡ es' ++ shut ∷ []) (room : trail'.room + 1 ≡ trail.room) where
      pub marks_shut : HandsMarks d g g' disk disk' m → IsKept d b sound premise began disk' catalog standing (slice_set groups place g') trail' None (Some call)
      marks_shut o =
          index_shut d tells_left up_to_now b sound premise began disk catalog standing groups trail late closed k running place g g' l is disk' o.place o.index o.region o.cells (marks_to d b es' g g' disk disk' m o) o.writes
          shut call shut-is shut_at rose (λ t. traced_marks d g g' disk disk' m es' t o) (stamps_step g g' m o.batch (record o.batch { batch = record o.batch.batch { marks = o.rest } }) o.step.step refl) (λ given. marks_go d b es' g g' disk disk' m o) trail' entries
          (let s = owed_step g g' m o.batch (record o.batch { batch = record o.batch.batch { marks = o.rest } }) o.step.step in omega (arith, s, room))

      pub closes_shut : HandsCloses d g g' disk disk' m → IsKept d b sound premise began disk' catalog standing (slice_set groups place g') trail' None (Some call)
      closes_shut o =
          index_shut d tells_left up_to_now b sound premise began disk catalog standing groups trail late closed k running place g g' l is disk' o.place o.index o.region o.cells (closes_to d b es' g g' disk disk' m o) o.writes
          shut call shut-is shut_at rose (λ t. traced_closes d g g' disk disk' m es' t o) (stamps_step g g' m o.batch (record o.batch { batch = record o.batch.batch { closes = o.rest } }) o.step.step refl) (λ given. closes_go d b es' g g' disk disk' m o) trail' entries
          (let s = owed_step g g' m o.batch (record o.batch { batch = record o.batch.batch { closes = o.rest } }) o.step.step in omega (arith, s, room))

-- ---- all indexes

module _ {D : Type 0} (d : Ghosts D) (tells_left : (x : D) (moment file : ℕ) (bytes : List ℕ) → d.left x moment file bytes → IsTrue d.tells)
    (up_to_now : (x : D) (moment file : ℕ) (bytes : List ℕ) → d.left x moment file bytes → moment ≤ d.calls x) (b : Base) (sound premise : Type 0) (began : Beginning) (disk : D) (catalog : Catalog) (standing : Standing)
    (groups : List Group) (trail : Recorded) (late : Option Entry) (closed : Option ℕ) (k : IsKept d b sound premise began disk catalog standing groups trail late closed) (running : closed ≡ None) (place : ℕ) (g g' : Group) (l : place < length groups) (is : get_or groups place g ≡ g) (m : ℕ) (disk' : D)
    (s : ℕ) (stamps : (x : Begun) → slice_get g.batches.items m ≡ Some x → x.batch.stamp ≡ s)
    (e : Entry) (at : e.calls ≡ d.calls disk') (trail' : Recorded) (entries : trail'.entries ≡ trail.entries ++ e ∷ []) (room : trail'.room + 1 ≡ trail.room) where
  abbrev seen : List Entry
  seen = trail.entries

  twice : (middle : Group) → slice_set (slice_set groups place middle) place g' ≡ slice_set groups place g'
  twice middle = set-set groups place middle g'

  then_at : (middle : Group) → place < length (slice_set groups place middle)
  then_at middle = (let n = length-set groups place middle in omega (arith, n, l))

  then_is : (middle : Group) → get_or (slice_set groups place middle) place middle ≡ middle
  then_is middle = get_or-set_same groups place middle middle l

  -- the phase of the group in the middle
  module _ (middle : Group) (same : middle.table ≡ g.table) (k' : IsKept d b sound premise began disk' catalog standing (slice_set groups place middle) trail late closed) where
    marked_after : (f : FinishesMarks middle g' m) → f.batch.batch.stamp ≡ s → e.act ≡ PhaseDone g.table.id s 1 → IsBatchIn seen e.seat g.table.id.0 s batches.Marking → IsKept d b sound premise began disk' catalog standing (slice_set groups place g') trail' late closed
    marked_after f stamp act phase =
        subst (λ (gs : List Group). IsKept d b sound premise began disk' catalog standing gs trail' late closed) (twice middle)
        (marked_kept d tells_left up_to_now b sound premise began disk' catalog standing (slice_set groups place middle) trail late closed k' running place middle g' (then_at middle) (then_is middle) m e at trail' entries room f
        (subst (λ (t : Table). e.act ≡ PhaseDone t.id f.batch.batch.stamp 1) (sym same) (subst (λ (n : ℕ). e.act ≡ PhaseDone g.table.id n 1) (sym stamp) act))
        (subst (λ (t : Table). IsBatchIn seen e.seat t.id.0 f.batch.batch.stamp batches.Marking) (sym same) (subst (λ (n : ℕ). IsBatchIn seen e.seat g.table.id.0 n batches.Marking) (sym stamp) phase)))

    verified_after : (f : FinishesCloses middle g' m) → f.batch.batch.stamp ≡ s → e.act ≡ PhaseDone g.table.id s 3 → IsBatchIn seen e.seat g.table.id.0 s batches.Verifying → IsKept d b sound premise began disk' catalog standing (slice_set groups place g') trail' late closed
    verified_after f stamp act phase =
        subst (λ (gs : List Group). IsKept d b sound premise began disk' catalog standing gs trail' late closed) (twice middle)
        (verified_kept d tells_left up_to_now b sound premise began disk' catalog standing (slice_set groups place middle) trail late closed k' running place middle g' (then_at middle) (then_is middle) m e at trail' entries room f
        (subst (λ (t : Table). e.act ≡ PhaseDone t.id f.batch.batch.stamp 3) (sym same) (subst (λ (n : ℕ). e.act ≡ PhaseDone g.table.id n 3) (sym stamp) act))
        (subst (λ (t : Table). IsBatchIn seen e.seat t.id.0 f.batch.batch.stamp batches.Verifying) (sym same) (subst (λ (n : ℕ). IsBatchIn seen e.seat g.table.id.0 n batches.Verifying) (sym stamp) phase)))

  -- where no call is made, the group in the middle is the one before
  unmoved : (middle : Group) → middle ≡ g → disk' ≡ disk → IsKept d b sound premise began disk' catalog standing (slice_set groups place middle) trail late closed
  unmoved middle same still =
      subst (λ (x : D). IsKept d b sound premise began x catalog standing (slice_set groups place middle) trail late closed) (sym still)
      (subst (λ (gs : List Group). IsKept d b sound premise began disk catalog standing gs trail late closed) (sym (ap (slice_set groups place) (same ∙ sym is) ∙ set-get_or groups place g)) k)

  pub marks_all : (a : MarksAll d g g' disk disk' m) → ((w : WroteMarks d g a.middle disk disk' m) → IsSameHorizon w.hands.index.region w.hands.region) → e.act ≡ PhaseDone g.table.id s 1 → IsBatchIn seen e.seat g.table.id.0 s batches.Marking → IsKept d b sound premise began disk' catalog standing (slice_set groups place g') trail' late closed
  marks_all a horizons act phase = elim a.before [
    | inl q ↦ marked_after a.middle (ap (λ (h : Group). h.table) q.0) (unmoved a.middle q.0 q.1) a.last (stamps a.last.batch (ap (λ (h : Group). slice_get h.batches.items m) (sym q.0) ∙ a.last.step.step.batch)) act phase
    | inr w ↦ (let
        o = w.hands
        in let
        x' = record o.batch { batch = record o.batch.batch { marks = o.rest } }
        in let
        same : a.last.batch ≡ x' = same_at a.middle.batches.items m a.last.batch x' a.last.step.step.batch (stands g a.middle m o.batch x' o.step.step)
        in marked_after a.middle o.step.step.table (marks_kept d tells_left up_to_now b sound premise began disk catalog standing groups trail late closed k running place g a.middle l is m disk' w (horizons w)) a.last
        (ap (λ (x : Begun). x.batch.stamp) same ∙ stamps o.batch o.step.step.batch) act phase)
  ]

  pub closes_all : (a : ClosesAll d g g' disk disk' m) → ((w : WroteCloses d g a.middle disk disk' m) → IsSameHorizon w.hands.index.region w.hands.region) → e.act ≡ PhaseDone g.table.id s 3 → IsBatchIn seen e.seat g.table.id.0 s batches.Verifying → IsKept d b sound premise began disk' catalog standing (slice_set groups place g') trail' late closed
  closes_all a horizons act phase = elim a.before [
    | inl q ↦ verified_after a.middle (ap (λ (h : Group). h.table) q.0) (unmoved a.middle q.0 q.1) a.last (stamps a.last.batch (ap (λ (h : Group). slice_get h.batches.items m) (sym q.0) ∙ a.last.step.step.batch)) act phase
    | inr w ↦ (let
        o = w.hands
        in let
        x' = record o.batch { batch = record o.batch.batch { closes = o.rest } }
        in let
        same : a.last.batch ≡ x' = same_at a.middle.batches.items m a.last.batch x' a.last.step.step.batch (stands g a.middle m o.batch x' o.step.step)
        in verified_after a.middle o.step.step.table (closes_kept d tells_left up_to_now b sound premise began disk catalog standing groups trail late closed k running place g a.middle l is m disk' w (horizons w)) a.last
        (ap (λ (x : Begun). x.batch.stamp) same ∙ stamps o.batch o.step.step.batch) act phase)
  ]

-- ---- by the answer

pub marked_more : {D : Type 0} (d : Ghosts D) (g g' : Group) (disk disk' : D) (m : ℕ) (r : Result Marks Failed) (x : Marks) → r ≡ Ok x → x ≡ marks.More → Marked d g g' disk disk' m r → WroteMarks d g g' disk disk' m
marked_more d g g' disk disk' m r x is more steps = (subst (Marked d g g' disk disk' m) (is ∙ ap Ok more) steps).0

pub marked_all : {D : Type 0} (d : Ghosts D) (g g' : Group) (disk disk' : D) (m : ℕ) (r : Result Marks Failed) (x : Marks) → r ≡ Ok x → x ≡ marks.AllMarked → Marked d g g' disk disk' m r → MarksAll d g g' disk disk' m
marked_all d g g' disk disk' m r x is all steps = subst (Marked d g g' disk disk' m) (is ∙ ap Ok all) steps

pub verified_more : {D : Type 0} (d : Ghosts D) (g g' : Group) (disk disk' : D) (m : ℕ) (r : Result Verifies Failed) (x : Verifies) → r ≡ Ok x → x ≡ verifies.More → Verified d g g' disk disk' m r → WroteCloses d g g' disk disk' m
verified_more d g g' disk disk' m r x is more steps = (subst (Verified d g g' disk disk' m) (is ∙ ap Ok more) steps).0

pub verified_all : {D : Type 0} (d : Ghosts D) (g g' : Group) (disk disk' : D) (m : ℕ) (r : Result Verifies Failed) (x : Verifies) → r ≡ Ok x → x ≡ verifies.Done → Verified d g g' disk disk' m r → ClosesAll d g g' disk disk' m
verified_all d g g' disk disk' m r x is all steps = subst (Verified d g g' disk disk' m) (is ∙ ap Ok all) steps
