-- A point is opened, or none is.
use Rattle.std.proofs.Common.{◌≡◌, ◌<◌, ◌≤◌, ◌+◌, ◌-◌, ◌⊎◌, ◌&&◌, inl, inr, ℕ, zero, suc, Bool, true, false, Option, Some, None, List, [], ◌∷◌, ◌++◌, length, get_or, min, refl, sym, ap, subst, ◌∙◌, arith}
use Rattle.std.specs.Prelude.{IsSome, IsTrue, is_some, nat_le, slice_get, sum_by}
use Rattle.std.specs.List.{AllByRecursion, slice_set}
use Rattle.std.proofs.lemmas.Bool.{and_parts, false≢true}
use Rattle.std.proofs.lemmas.Bool.Decides.{nat_tests}
use Rattle.px_outside.specs.declared.disk.Disk.{Ghosts}
use Rattle.px_values.specs.declared.name.TableId.{TableId}
use Rattle.px_tables.specs.declared.found.Found.{Found}
use Rattle.px_tables.specs.declared.table.Table.{Table}
use Rattle.px_trail.specs.declared.entry.Act.TheVariants.{Opened}
use Rattle.px_trail.specs.declared.entry.Entry.{Entry}
use Rattle.px_trail.specs.Batches.{Batch, IsBatchIn, IsDecided, batch_of, phase_of}
use Rattle.px_trail.specs.Batches as trail
use Rattle.px_trail.specs.Legal.{Follows, IsLegal, MayCome}
use Rattle.px_trail.specs.Recorded.{Recorded}
use Rattle.px_trail.specs.Trail.{Base, Catalogue, catalogue_step, closing_call, closing_step, horizon_of, last_of, table_of}
use Rattle.px_trail.proofs.Growth.{last-snoc}
use Rattle.px_openbatches.specs.Pending.{HeldBatch}
use Rattle.px_phases.specs.Batch.{BatchData}
use Rattle.px_schema.specs.declared.standing.Standing.{Standing}
use Rattle.px_catalog.specs.Catalogue.{standing_of}
use Rattle.px_catalog.specs.declared.catalog.Catalog.{Catalog}
use Rattle.px_group.specs.Group.{FitsPhase, IsRightBatch, IsRightGroup, IsTallied, as_phase}
use Rattle.px_group.specs.declared.group.Begun.{Begun}
use Rattle.px_group.specs.declared.group.Group.{Group}
use Rattle.px_group.specs.declared.group.Phase.{Phase}
use Rattle.px_group.specs.declared.group.Phase.TheVariants.{Closing, Marking, Verifying, Writing}
use Rattle.px_batching.proofs.Places.{all_at as at_place}
use Rattle.px_noting.specs.Points.{HasOpened, IsSameBesidePoints}
use Rattle.px_noting.proofs.OpenPoints.{points_opened, tallied_opened}
use Rattle.px_recovery.specs.Tables.{indexes_of}
use Rattle.px_recovery.proofs.Server.{newest_early}
use Rattle.px_standing.proofs.Looked.{found_at}
use Rattle.px_calls.specs.Calls.{DidOpen}
use Rattle.px_calls.specs.Causes.{IsUndecided, Refuses, TableStands, open_cause, stamp_at}
use Rattle.px_calls.specs.Known.{Known}
use Rattle.px_calls.specs.declared.fault.StepFault.{StepFault}
use Rattle.px_calls.specs.declared.fault.StepFault.TheVariants.{BelowHorizon, Memory, NoTable, NotYet}
use Rattle.px_server.specs.Kept.{HasTallied, IsKept, IsTold, owed_by}
use Rattle.px_server.specs.Others.{Beginning}
use Rattle.px_server.specs.Points.{HasBatchLeft, HasNoneLeft, IsNoPointOf, IsPointOf, point_under}
use Rattle.px_server.proofs.Blamed.{blamed_quiet}
use Rattle.px_server.proofs.Acted.{acted_still, once_at, points_at, right_at, same_acted, tallied_at}
use Rattle.px_server.proofs.Decided.{decided}
use Rattle.px_server.proofs.Ended.{IsLeftBatch, left_batch}
use Rattle.px_server.proofs.Low.{horizon_low}
use Rattle.px_server.proofs.OpenBatches.{phase_told}
use Rattle.px_server.proofs.PointMoved.{pointed}
use Rattle.px_server.proofs.Released.{group_of, place_in}
use Rattle.px_server.proofs.Seen.{one_more, stays}

unshut_by : (o : Option ℕ) (t : TableId) (s : ℕ) (scn : Bool) → closing_step o (Opened t s scn) ≡ o
unshut_by None t s scn = refl
unshut_by (Some c) t s scn = refl

still_by : (t : TableId) (s : ℕ) (scn : Bool) (c : Catalogue) → catalogue_step c (Opened t s scn) ≡ c
unfolding catalogue_step
still_by t s scn c = refl

-- ---- what is written at the point

written_by : (v w : Bool) → (v && w) ≡ false → v ≡ true → w ≡ false
written_by true w both v-is = both
written_by false w both v-is = absurd (false≢true v-is)

each_at : {A : Type 0} (P : A → Type 0) (xs : List A) → ((n : ℕ) (x : A) → slice_get xs n ≡ Some x → P x) → AllByRecursion P xs
each_at P [] f = tt
each_at P (x ∷ xs) f = (f zero x refl, each_at P xs (λ n. f (suc n)))

le_true : (a b : ℕ) → a ≤ b → nat_le a b ≡ true
le_true a b h = grind (arith, nat_tests)

all_written : (g : Group) (p : ℕ) → HasNoneLeft g p → AllByRecursion (λ (m : Begun). m.batch.stamp ≤ p → is_some m.batch.puts ≡ false) g.batches.items
all_written g p none = each_at (λ (m : Begun). m.batch.stamp ≤ p → is_some m.batch.puts ≡ false) g.batches.items (λ n x at l. written_by (nat_le x.batch.stamp p) (is_some x.batch.puts) (none n x at) (le_true x.batch.stamp p l))

-- what is to write is in its first phase, or in its second
to_write : (p : Phase) (count : ℕ) (bd : BatchData) → FitsPhase p count bd → is_some bd.puts ≡ true → (as_phase p ≡ trail.Marking) ⊎ (as_phase p ≡ trail.Writing)
to_write Marking count bd stage some = inl refl
to_write Writing count bd stage some = inr refl
to_write Verifying count bd stage some = absurd (false≢true (sym (ap is_some stage.0) ∙ some))
to_write Closing count bd stage some = absurd (false≢true (sym (ap is_some stage.0) ∙ some))

true_le : (a b : ℕ) → nat_le a b ≡ true → a ≤ b
true_le a b h = grind (arith, nat_tests)

module _ (k : Known) (legal : IsLegal k.base k.seen) (g : Group) (hs : List HeldBatch) (right : IsRightGroup g) (tallied : IsTallied k.base k.seen g hs) (p s : ℕ) (left : HasBatchLeft g p s) where
  told_phase : (y : Batch) × ((batch_of g.table.id.0 left.batch.batch.stamp k.seen ≡ Some y) × (phase_of y ≡ as_phase left.batch.phase))
  told_phase = phase_told k.base k.seen g hs tallied left.place left.batch left.is

  is_in : (q : trail.BatchPhase) → as_phase left.batch.phase ≡ q → IsBatchIn k.seen told_phase.0.seat g.table.id.0 left.batch.batch.stamp q
  is_in q same = record { batch = told_phase.0; is = told_phase.1.0; mine = refl; phase = told_phase.1.1 ∙ same }

  tests : (nat_le left.batch.batch.stamp p ≡ true) × (is_some left.batch.batch.puts ≡ true)
  tests = and_parts (nat_le left.batch.batch.stamp p) (is_some left.batch.batch.puts) left.left

  left_then : IsLeftBatch k.seen g.table.id.0 left.batch.batch.stamp
  left_then = left_batch k.base k.seen legal told_phase.0.seat g.table.id.0 left.batch.batch.stamp
      (elim (to_write left.batch.phase left.batch.count left.batch.batch (at_place (IsRightBatch g) g.batches.items left.place left.batch left.is right.batches).stage tests.1) [
        | inl q ↦ inl (is_in trail.Marking q)
        | inr q ↦ inr (is_in trail.Writing q)
      ])

  undecided : IsUndecided k g.table.id.0 p s
  undecided = (let low = true_le left.batch.batch.stamp p tests.0 in let at = left.stamp in record {
    below = omega (arith, low, at);
    batch = left_then.batch;
    is = ap (λ (n : ℕ). batch_of g.table.id.0 n k.seen) (sym left.stamp) ∙ left_then.is;
    left = left_then.left;
  })

-- ---- refusals

some_table : (o : Option Table) (x : Table) → o ≡ Some x → IsSome o
some_table o x is = subst (λ (v : Option Table). IsSome v) (sym is) refl

module _ (k : Known) (legal : IsLegal k.base k.seen) (closed : Option ℕ) (closing : closing_call k.seen ≡ closed) (running : closed ≡ None) (g : Group) (right : IsRightGroup g) (told : HasTallied k.base k.seen g) (t : TableId) (own : g.table.id ≡ t) where
  stands_here : TableStands k t.0
  stands_here = subst (λ (x : TableId). TableStands k x.0) own (some_table (table_of k.base k.seen g.table.id.0) g.table told.tallied.standing.table)

  horizon_here : horizon_of k.base t.0 k.seen ≡ g.horizon
  horizon_here = ap (λ (x : TableId). horizon_of k.base x.0 k.seen) (sym own) ∙ told.tallied.horizon

  last_here : last_of k.base t.0 k.seen ≡ g.last
  last_here = ap (λ (x : TableId). last_of k.base x.0 k.seen) (sym own) ∙ told.tallied.last

  pub no_point : (scn : Option ℕ) (f : StepFault) → IsNoPointOf g scn f → Refuses (open_cause t.0 scn) k k f
  no_point (Some n) (BelowHorizon h) i = ((stands_here, horizon_here ∙ sym i.0, (let one = i.0 in let two = i.1 in omega (arith, one, two))), stays k legal, closing ∙ running)
  no_point (Some n) (NotYet s) i = (
    (
      stands_here,
      (let one = i.0 in let two = horizon_here in omega (arith, one, two)),
      subst (λ (p : ℕ). IsUndecided k t.0 p s) (ap (λ (l : ℕ). min (n - 1) l) (sym last_here)) (subst (λ (x : TableId). IsUndecided k x.0 (point_under g n) s) own (undecided k legal g told.held right told.tallied (point_under g n) s i.1)),
    ),
    stays k legal,
    closing ∙ running,
  )
  no_point scn f i = absurd i

pub open_no_table : (k : Known) → IsLegal k.base k.seen → (closed : Option ℕ) → closing_call k.seen ≡ closed → closed ≡ None → (t : ℕ) (scn : Option ℕ) → table_of k.base k.seen t ≡ None → Refuses (open_cause t scn) k k NoTable
open_no_table k legal closed closing running t scn none = (none, stays k legal, closing ∙ running)

pub open_no_memory : (k : Known) → IsLegal k.base k.seen → (closed : Option ℕ) → closing_call k.seen ≡ closed → closed ≡ None → (t : ℕ) (scn : Option ℕ) → Refuses (open_cause t scn) k k Memory
open_no_memory k legal closed closing running t scn = (tt, stays k legal, closing ∙ running)

-- ---- the server

module _ {D : Type 0} (d : Ghosts D) (b : Base) (sound premise : Type 0) (began : Beginning)
    (disk : D) (catalog : Catalog) (standing : Standing) (groups : List Group) (trail : Recorded) (late : Option Entry) (closed : Option ℕ) (k : IsKept d b sound premise began disk catalog standing groups trail late closed)
    (running : closed ≡ None) (t : TableId) (place : ℕ) (g : Group) (l : place < length standing.tables) (number : (none : Table) → (get_or standing.tables place none).id ≡ t) (is : get_or groups place g ≡ g) where
  abbrev es : List Entry
  es = trail.entries

  inside : place < length groups
  inside = place_in groups standing.tables k.each.stand place l

  pub own : g.table.id ≡ t
  own = group_of groups standing.tables k.each.stand place g inside is t number

  pub right_here : IsRightGroup g
  right_here = right_at d b sound premise began disk catalog standing groups trail late closed k place g inside is running

  pub told_here : HasTallied b es g
  told_here = tallied_at d b sound premise began disk catalog standing groups trail late closed k place g inside is running

  low : g.horizon ≤ g.last
  low = (let n = horizon_low b k.told.low es k.told.legal g.table.id.0 in let h = told_here.tallied.horizon in let m = told_here.tallied.last in omega (arith, n, h, m))

  -- the groups as they are where no room was found
  pub opens_none : (g' : Group) → IsSameBesidePoints g g' → g'.points.items ≡ g.points.items → (trail' : Recorded) → trail' ≡ trail → IsKept d b sound premise began disk catalog standing (slice_set groups place g') trail' late closed
  opens_none g' beside points trail' same = subst (λ (r : Recorded). IsKept d b sound premise began disk catalog standing (slice_set groups place g') r late closed) (sym same)
      (acted_still d b sound premise began disk catalog standing groups trail late closed k place g inside is g' (same_acted d disk b es closed g g' beside points (points_at d b sound premise began disk catalog standing groups trail late closed k place g inside is) right_here told_here (once_at d b sound premise began disk catalog standing groups trail late closed k place g inside is running) running)
      (let
      count : length g'.points.items ≡ length g.points.items = ap length points
      in let
      batches : sum_by owed_by g'.batches.items ≡ sum_by owed_by g.batches.items = ap (λ xs. sum_by owed_by xs.items) beside.batches
      in omega (arith, count, batches)))

  module _ (scn : Option ℕ) (s : ℕ) (point : IsPointOf g scn s) where
    -- the stamp is from the horizon to the last one, and all is written at it under an SCN
    stamp_low : (o : Option ℕ) → IsPointOf g o s → (g.horizon ≤ s) × (s ≤ g.last)
    stamp_low None p = (let n = low in (omega (arith, n, p), omega (arith, p)))
    stamp_low (Some n) p = (let m = low in let one = p.0 in let two = p.1 in (omega (arith, m, one, two), omega (arith, one)))

    all_decided : (o : Option ℕ) → IsPointOf g o s → is_some o ≡ true → IsDecided es g.table.id.0 s
    all_decided None p some = absurd (false≢true some)
    all_decided (Some n) p some = decided b es g told_here.held k.told.legal told_here.tallied s (all_written g s p.2)

    module _ (tells_left : (x : D) (moment file : ℕ) (bytes : List ℕ) → d.left x moment file bytes → IsTrue d.tells) (up_to_now : (x : D) (moment file : ℕ) (bytes : List ℕ) → d.left x moment file bytes → moment ≤ d.calls x)
        (seat calls : ℕ) (at : calls ≡ d.calls disk) where
      abbrev e : Entry
      e = record { seat = seat; calls = calls; act = Opened t s (is_some scn) }

      may : MayCome b es e
      unfolding Follows
      may = record {
        follows = (
          (let h = told_here.tallied.horizon in let w = (stamp_low scn point).0 in let same : horizon_of b t.0 es ≡ horizon_of b g.table.id.0 es = ap (λ (x : TableId). horizon_of b x.0 es) (sym own) in omega (arith, h, w, same)),
          (let h = told_here.tallied.last in let w = (stamp_low scn point).1 in let same : last_of b t.0 es ≡ last_of b g.table.id.0 es = ap (λ (x : TableId). last_of b x.0 es) (sym own) in omega (arith, h, w, same)),
          (λ some. subst (λ (x : TableId). IsDecided es x.0 s) own (all_decided scn point some)),
          subst (λ (x : TableId). IsSome (table_of b es x.0)) own (some_table (table_of b es g.table.id.0) g.table told_here.tallied.standing.table),
        );
        shut = λ not. k.told.closing ∙ running;
        calls = (let n = newest_early (d.calls disk) 0 es (omega arith) k.server.early in omega (arith, n, at));
      }

      act_is : e.act ≡ Opened g.table.id s (is_some scn)
      act_is = ap (λ (x : TableId). Opened x s (is_some scn)) (sym own)

      pub opens : (g' : Group) → HasOpened g g' seat s → length g'.points.items ≡ length g.points.items + 1 → (trail' : Recorded) → trail'.entries ≡ es ++ e ∷ [] → trail'.room ≡ trail.room + 1 → IsKept d b sound premise began disk catalog standing (slice_set groups place g') trail' late closed
      opens g' opened more trail' entries room =
          pointed d tells_left up_to_now b sound premise began disk catalog standing groups trail late closed k e at refl (blamed_quiet d disk trail.entries e refl k.blamed) may (unshut_by closed t s (is_some scn)) (still_by t s (is_some scn)) (λ x. tt) place g g' inside is opened.same
          (λ x other same. other (sym same ∙ ap (λ (y : TableId). y.0) (sym own))) (λ n. tt) tt
          (points_opened es g (points_at d b sound premise began disk catalog standing groups trail late closed k place g inside is) e s (is_some scn) act_is g' opened) (λ hs tallied. tallied_opened b es g hs tallied e s (is_some scn) act_is g' opened) trail' entries
          (let
          batches : sum_by owed_by g'.batches.items ≡ sum_by owed_by g.batches.items = ap (λ xs. sum_by owed_by xs.items) opened.same.batches
          in omega (arith, batches, more, room))

      -- what is answered
      pub did_open : (damaged : ℕ → ℕ → Bool) (trail' : Recorded) → trail'.entries ≡ es ++ e ∷ [] → IsTold b trail'.entries closed (standing_of catalog) standing → (f : Found) → ((none : Table) → f.table ≡ get_or standing.tables place none) → f.indexes ≡ indexes_of f.table.id.0 standing.indexes → f.at ≡ length trail'.entries
          → DidOpen (record { seat = seat; base = b; damaged = damaged; alone = true; seen = es }) (record { seat = seat; base = b; damaged = damaged; alone = true; seen = trail'.entries }) t scn (record { table = t; stamp = s; scn = is_some scn; found = f })
      did_open damaged trail' entries then f table indexes f-at = record {
        table = refl;
        is_scn = refl;
        stamp = stamp_then scn point ∙ ap (stamp_at scn t.0 b) (sym entries);
        adds = one_more (record { seat = seat; base = b; damaged = damaged; alone = true; seen = es }) trail'.entries calls (Opened t s (is_some scn)) k.told.legal entries then.legal;
        found = found_at b trail'.entries standing then.agrees f place l table indexes f-at;
        found_table = ap (λ (x : Table). x.id) (table f.table) ∙ number f.table;
      }
        where
          last_then : last_of b t.0 (es ++ e ∷ []) ≡ g.last
          last_then = last-snoc b t.0 es e ∙ (ap (λ (x : TableId). last_of b x.0 es) (sym own) ∙ told_here.tallied.last)

          stamp_then : (o : Option ℕ) → IsPointOf g o s → s ≡ stamp_at o t.0 b (es ++ e ∷ [])
          stamp_then None p = p ∙ sym last_then
          stamp_then (Some n) p = p.0 ∙ ap (λ (m : ℕ). min (n - 1) m) (sym last_then)

-- one group is there
pub one_there : (gs : List Group) (place : ℕ) (g h : Group) → place < length gs → get_or gs place g ≡ g → get_or gs place h ≡ h → g ≡ h
one_there [] place g h l is its = absurd (omega (arith, l))
one_there (x ∷ gs) zero g h l is its = sym is ∙ its
one_there (x ∷ gs) (suc place) g h l is its = one_there gs place g h (omega (arith, l)) is its
