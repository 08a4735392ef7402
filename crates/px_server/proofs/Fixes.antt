-- A repair is made: what is true of a server stays so.
use Rattle.std.proofs.Common.{◌≡◌, ◌<◌, ◌≤◌, ◌+◌, ℕ, zero, suc, false, inr, Option, Some, None, Result, Ok, Err, List, [], ◌∷◌, ◌++◌, length, get_or, map, slice_get, refl, sym, ap, subst, ◌∙◌, arith}
use Rattle.std.specs.Prelude.{IfErr, IfOk, IsSome, IsTrue, nat_eq, sum_by}
use Rattle.std.proofs.lemmas.Bool.{false≢true}
use Rattle.std.specs.List.{slice_set}
use Rattle.px_outside.specs.OnDisk.{Rose}
use Rattle.px_outside.specs.declared.disk.Disk.{Ghosts}
use Rattle.px_cells.specs.CellData.{CellData}
use Rattle.px_cells.specs.Order.{ReadsSame}
use Rattle.px_region.specs.OnlyRead.{HasOnlyRead}
use Rattle.px_region.specs.Region.{read_of}
use Rattle.px_tables.specs.declared.index.Index.{Index}
use Rattle.px_values.specs.declared.name.IndexId.{IndexId}
use Rattle.px_trail.specs.declared.entry.Act.TheVariants.{Fixed}
use Rattle.px_trail.specs.declared.entry.Entry.{Entry}
use Rattle.px_trail.specs.Legal.{Follows, IsLegal, MayCome}
use Rattle.px_trail.specs.Recorded.{Recorded}
use Rattle.px_trail.specs.Trail.{Base, Catalogue, catalogue_of, catalogue_step, closing_step, index_of, open_points}
use Rattle.px_trail.proofs.Growth.{catalogue-snoc, points-snoc}
use Rattle.px_groupworld.specs.Group.{no_part}
use Rattle.px_groupworld.specs.Steps.{at_index, cells_data, with_cells}
use Rattle.px_indexed.specs.Worlds.{row_event}
use Rattle.px_world.specs.Events.{Fix}
use Rattle.px_schema.specs.declared.standing.Standing.{Standing}
use Rattle.px_catalog.specs.declared.catalog.Catalog.{Catalog}
use Rattle.px_group.specs.Group.{AreStanding, IsRightGroup, IsRightPart, form_of}
use Rattle.px_group.specs.declared.group.Group.{Group}
use Rattle.px_noting.proofs.Others.{apart_points, tallied_apart}
use Rattle.px_group.specs.declared.group.IndexRegion.{IndexRegion}
use Rattle.px_indexed.proofs.Rows.{batch_sound}
use Rattle.px_reading.specs.Looked.{HasLooked}
use Rattle.px_reading.proofs.Flight.{flight_pending, in_flight}
use Rattle.px_reading.proofs.Looked.{looked_back, looked_on, part_at}
use Rattle.px_recovery.proofs.Server.{newest_early}
use Rattle.px_calls.specs.Calls.{DidFix, Finds, IsInFlight}
use Rattle.px_calls.specs.Causes.{Refuses, fix_cause}
use Rattle.px_calls.specs.Known.{Known}
use Rattle.px_calls.specs.declared.fault.StepFault.{StepFault}
use Rattle.px_calls.specs.declared.query.Doubt.{Doubt}
use Rattle.px_calls.specs.declared.query.Fixing.{Fixing}
use Rattle.px_calls.specs.declared.query.Fixing.TheVariants as fixing
use Rattle.px_repairs.specs.Refused.{RefusesRepair}
use Rattle.px_repairs.specs.Repairs.{Fixes, HandsRepair, HasFailedRepair, HasFixed, HasOnlyLooked, IsChangeUnderWay, IsRepair, WroteRepair, stands_in}
use Rattle.px_repairs.specs.declared.repairing.RepairFault.{RepairFault}
use Rattle.px_repairs.specs.declared.repairing.RepairFault.TheVariants.{Busy, NotReady, ReadFault, Damaged, WriteFault, Memory}
use Rattle.px_repairs.proofs.Handing.{got_some}
use Rattle.px_server.specs.Repairs.{Answers, IsMended, Mends, RefusesFix, StandsNoMore, StandsStill, AddsNoEntry}
use Rattle.px_pointreads.proofs.Asked.{there_is}
use Rattle.px_repairs.proofs.Right.{right_repaired, tallied_repaired, traced_repaired}
use Rattle.px_repairs.proofs.Shown.{repair_steps, repaired_shown, repaired_steps}
use Rattle.px_server.specs.Kept.{HasPoints, HasTallied, HasTrailRoom, IsKept, IsShutAt, owed, owed_by}
use Rattle.px_server.specs.Others.{Beginning}
use Rattle.px_server.proofs.Blamed.{blamed_quiet}
use Rattle.px_server.proofs.Built.{built_step, run_at, same_ids}
use Rattle.px_server.proofs.Handed.{IndexGoes, IndexShows, index_handed, index_shut}
use Rattle.px_server.proofs.Regions.{ToIndex}
use Rattle.px_server.proofs.Lists.{all_at}
use Rattle.px_server.proofs.Looked.{looked_kept, looked_owed}
use Rattle.px_server.proofs.OpenBatches.{stamp_in}
use Rattle.px_server.proofs.PointMoved.{pointed}
use Rattle.px_server.proofs.ReadAt.{inside as inside_groups}
use Rattle.px_server.proofs.OnlyRead.{read_kept}

-- ---- lists

length_set : {A : Type 0} (xs : List A) (i : ℕ) (x : A) → length (slice_set xs i x) ≡ length xs
length_set [] i x = refl
length_set (y ∷ xs) zero x = refl
length_set (y ∷ xs) (suc i) x = ap suc (length_set xs i x)

got_set : {A : Type 0} (xs : List A) (i : ℕ) (x d : A) → i < length xs → get_or (slice_set xs i x) i d ≡ x
got_set [] i x d l = absurd (omega (arith, l))
got_set (y ∷ xs) zero x d l = refl
got_set (y ∷ xs) (suc i) x d l = got_set xs i x d (omega (arith, l))

set_twice : {A : Type 0} (xs : List A) (i : ℕ) (x y : A) → slice_set (slice_set xs i x) i y ≡ slice_set xs i y
set_twice [] i x y = refl
set_twice (z ∷ xs) zero x y = refl
set_twice (z ∷ xs) (suc i) x y = ap (λ l. z ∷ l) (set_twice xs i x y)

pub set_same : {A : Type 0} (xs : List A) (i : ℕ) (x : A) → i < length xs → get_or xs i x ≡ x → slice_set xs i x ≡ xs
set_same [] i x l is = refl
set_same (y ∷ xs) zero x l is = ap (λ z. z ∷ xs) (sym is)
set_same (y ∷ xs) (suc i) x l is = ap (λ l. y ∷ l) (set_same xs i x (omega (arith, l)) is)

module _ {D : Type 0} (d : Ghosts D) (tells_left : (x : D) (moment file : ℕ) (bytes : List ℕ) → d.left x moment file bytes → IsTrue d.tells)
    (up_to_now : (x : D) (moment file : ℕ) (bytes : List ℕ) → d.left x moment file bytes → moment ≤ d.calls x) (b : Base) (sound premise : Type 0) (began : Beginning)
    (disk : D) (catalog : Catalog) (standing : Standing) (groups : List Group) (trail : Recorded) (late : Option Entry) (closed : Option ℕ) (k : IsKept d b sound premise began disk catalog standing groups trail late closed)
    (running : closed ≡ None) (place : ℕ) (g g' : Group) (l : place < length groups) (is : get_or groups place g ≡ g) (disk' : D) where
  abbrev es : List Entry
  es = trail.entries

  abbrev then : List Group
  then = slice_set groups place g'

  pub fix_stayed : HasOnlyLooked d g g' disk disk' → IsKept d b sound premise began disk' catalog standing then trail late closed
  fix_stayed h = read_kept d disk disk' h.reads tells_left up_to_now b sound premise began catalog standing then trail late closed (looked_kept d b sound premise began disk catalog standing groups trail late closed k place g g' l is h.looked) running

  module _ (at : ℕ) (key : List ℕ) (s : ℕ) where
    goes_by : (looked : Group) (kept : List CellData) → IsRepair looked at key s kept → (x : IndexRegion) → slice_get looked.indexes.items at ≡ Some x → (put : List CellData) → ReadsSame put kept → IndexGoes b es es looked at x put
    goes_by looked kept due x there put same index v hs tallied shown told new reads = record {
      table_data = cells_data at new v;
      kept = (repair_steps looked at key s kept due b index es v hs tallied shown told x there put same new reads).kept.group;
      high = omega arith;
      low = refl;
      cells = refl;
      indexes = refl;
    }

    module _ (looked : Group) (has : HasLooked g looked) where
      abbrev before : List Group
      before = slice_set groups place looked

      kept_before : IsKept d b sound premise began disk catalog standing before trail late closed
      kept_before = looked_kept d b sound premise began disk catalog standing groups trail late closed k place g looked l is has

      inside : place < length before
      inside = (let n = length_set groups place looked in omega (arith, n, l))

      is_before : get_or before place looked ≡ looked
      is_before = got_set groups place looked looked l

      owed_same : owed looked ≡ owed g
      owed_same = looked_owed g looked has

      right_before : IsRightGroup looked
      right_before = all_at IsRightGroup before place looked inside is_before (kept_before.each.right running)

      -- the cells were written
      module _ (kept : List CellData) (due : IsRepair looked at key s kept) (w : WroteRepair d looked g' disk disk' at kept) where
        to_index : ToIndex looked g' at w.index w.region
        to_index = record { table = w.step.table; points = w.step.points; index = w.step.index; rows = w.step.rows; indexes = w.step.indexes }

        owed_written : owed g' ≤ owed looked
        owed_written = (let p = ap (λ q. length q.items) w.step.points in let m = ap (λ q. sum_by owed_by q.items) w.step.batches in omega (arith, p, m))

        shows : IndexShows b es es looked g' (λ hs. hs) at w.region
        unfolding goes_by
        shows index v hs tallied shown told built = record {
          then = goes_by looked kept due w.index w.step.index w.wrote.hands.cells w.wrote.hands.handed.reads index v hs tallied shown told (read_of w.region) w.wrote.written.reads;
          shown = repaired_shown d looked g' disk disk' at key s kept due b index es v hs tallied shown told w;
          told = record { each = told.told.each };
          built = built_step (form_of b index looked) es v shown.kept.group (λ i r. at_index at i (row_event (Fix key s) ((index (get_or v.indexes at no_part).id).owns r key))) (cells_data at (read_of w.region) v)
              (repaired_steps d looked g' disk disk' at key s kept due b index es v hs tallied shown told w).does
              (λ i r. run_at (Fix key s) tt (nat_eq at i) ((index (get_or v.indexes at no_part).id).owns r key)) (λ i l. same_ids v.indexes at (with_cells (read_of w.region) (get_or v.indexes at no_part)) refl i l) built;
        }

        pub written_kept : IsKept d b sound premise began disk' catalog standing then trail late closed
        written_kept = subst (λ (gs : List Group). IsKept d b sound premise began disk' catalog standing gs trail late closed) (set_twice groups place looked g')
            (index_handed d tells_left up_to_now b sound premise began disk catalog standing before trail late closed kept_before running place looked g' inside is_before disk' at w.index w.region w.wrote.hands.cells to_index w.wrote.hands.writes w.wrote.written w.wrote.hands.writes.horizon
            (right_repaired d looked g' disk disk' at key s kept right_before due w) (λ hs. hs) (λ hs t. tallied_repaired d looked g' disk disk' at kept b es hs t (record { index = w.index; region = w.region; step = w.step; hands = w.wrote.hands })) shows owed_written)

        pub stands_written : (i : IndexId) → ((x : IndexRegion) → slice_get g.indexes.items at ≡ Some x → x.index.id ≡ i) → (y : Index) × (index_of b es i.0 ≡ Some y)
        stands_written i named = (let
            t : HasTallied b es looked = all_at (HasTallied b es) before place looked inside is_before (kept_before.each.tallied running)
            in let
            z = looked_back g.indexes.items looked.indexes.items has.indexes at w.index w.step.index
            in (w.index.index, subst (λ (j : IndexId). index_of b es j.0 ≡ Some w.index.index) (ap (λ (y : Index). y.id) z.1.1.index ∙ named z.0 z.1.0) (t.tallied.standing.index at w.index w.step.index)))

        pub tallied_before : HasTallied b es looked
        tallied_before = all_at (HasTallied b es) before place looked inside is_before (kept_before.each.tallied running)

      -- or the disk failed
      module _ (kept : List CellData) (due : IsRepair looked at key s kept) (w : HandsRepair d looked g' disk disk' at kept) (shut : Entry) (call : ℕ) (shut-is : IsShutAt shut call) (shut_at : call ≡ d.calls disk') (rose : Rose d disk disk')
          (trail' : Recorded) (entries : trail'.entries ≡ es ++ shut ∷ []) (room : trail.room ≤ trail'.room + 1) where
        to_failed : ToIndex looked g' at w.index w.region
        to_failed = record { table = w.step.table; points = w.step.points; index = w.step.index; rows = w.step.rows; indexes = w.step.indexes }

        owed_failed : owed g' ≡ owed looked
        owed_failed = (let p = ap (λ q. length q.items) w.step.points in let m = ap (λ q. sum_by owed_by q.items) w.step.batches in omega (arith, p, m))

        pub failed_kept : IsKept d b sound premise began disk' catalog standing then trail' None (Some call)
        failed_kept = subst (λ (gs : List Group). IsKept d b sound premise began disk' catalog standing gs trail' None (Some call)) (set_twice groups place looked g')
            (index_shut d tells_left up_to_now b sound premise began disk catalog standing before trail late closed kept_before running place looked g' inside is_before disk' at w.index w.region w.hands.cells to_failed w.hands.writes
            shut call shut-is shut_at rose (λ t. traced_repaired d looked g' disk disk' at kept es t w) (ap (λ q. map stamp_in q.items) w.step.batches) (λ given. goes_by looked kept due w.index w.step.index w.hands.cells w.hands.handed.reads) trail' entries (let o = owed_failed in omega (arith, o, room)))

-- ---- the entry

module _ {D : Type 0} (d : Ghosts D) (tells_left : (x : D) (moment file : ℕ) (bytes : List ℕ) → d.left x moment file bytes → IsTrue d.tells)
    (up_to_now : (x : D) (moment file : ℕ) (bytes : List ℕ) → d.left x moment file bytes → moment ≤ d.calls x) (b : Base) (sound premise : Type 0) (began : Beginning)
    (disk : D) (catalog : Catalog) (standing : Standing) (groups : List Group) (trail : Recorded) (late : Option Entry) (closed : Option ℕ) (k : IsKept d b sound premise began disk catalog standing groups trail late closed)
    (running : closed ≡ None) (place : ℕ) (g : Group) (l : place < length groups) (is : get_or groups place g ≡ g) (seat calls : ℕ) (i : IndexId) (key : List ℕ) (called : calls ≡ d.calls disk) (stands : (y : Index) × (index_of b trail.entries i.0 ≡ Some y)) where
  abbrev e : Entry
  e = record { seat = seat; calls = calls; act = Fixed i key }

  still_by : (c : Catalogue) → catalogue_step c (Fixed i key) ≡ c
  unfolding catalogue_step
  still_by c = refl

  unshut_by : (o : Option ℕ) → closing_step o (Fixed i key) ≡ o
  unshut_by None = refl
  unshut_by (Some c) = refl

  some : (o : Option Index) (y : Index) → o ≡ Some y → IsSome o
  some None y z = cc
  some (Some x) y z = refl

  pub may_fix : MayCome b trail.entries e
  unfolding Follows
  may_fix = record {
    follows = some (index_of b trail.entries i.0) stands.0 stands.1;
    shut = λ past. k.told.closing ∙ running;
    calls = (let n = newest_early (d.calls disk) 0 trail.entries (omega arith) k.server.early in omega (arith, n, called));
  }

  standing_on : AreStanding b trail.entries g → AreStanding b (trail.entries ++ e ∷ []) g
  standing_on a = (let
      same : catalogue_of b (trail.entries ++ e ∷ []) ≡ catalogue_of b trail.entries = catalogue-snoc b trail.entries e ∙ still_by (catalogue_of b trail.entries)
      in record {
        table = ap (λ (c : Catalogue). c.tables g.table.id.0) same ∙ a.table;
        index = λ j x at. ap (λ (c : Catalogue). c.indexes x.index.id.0) same ∙ a.index j x at;
        all = λ y at of_table maintained. a.all y (ap (λ (c : Catalogue). c.indexes y.id.0) (sym same) ∙ at) of_table maintained;
      })

  pub noted_kept : (trail' : Recorded) → trail'.entries ≡ trail.entries ++ e ∷ [] → HasTrailRoom closed groups trail' → IsKept d b sound premise began disk catalog standing groups trail' late closed
  noted_kept trail' entries room = (let
      same : slice_set groups place g ≡ groups = set_same groups place g l is
      in let
      here : HasPoints trail.entries g = all_at (HasPoints trail.entries) groups place g l is k.each.points
      in let
      -- the same entries, with the room that is left behind the entry
      roomy : Recorded = record trail { room = trail'.room }
      in let
      kept : IsKept d b sound premise began disk catalog standing groups roomy late closed = record { told = k.told; each = k.each; shown = k.shown; server = k.server; room = room; blamed = k.blamed; last_call = k.last_call; others = k.others }
      in subst (λ (gs : List Group). IsKept d b sound premise began disk catalog standing gs trail' late closed) same
      (pointed d tells_left up_to_now b sound premise began disk catalog standing groups roomy late closed kept e called refl (blamed_quiet d disk trail.entries e refl k.blamed) may_fix (unshut_by closed) still_by (λ t. tt) place g g l is (record { table = refl; rows = refl; indexes = refl; batches = refl; last = refl; horizon = refl })
      (λ t other. tt) (λ n. tt) tt (λ q s. points-snoc q g.table.id.0 s trail.entries e ∙ (apart_points g.table.id q s (open_points q g.table.id.0 s trail.entries) seat (Fixed i key) tt ∙ here q s))
      (λ hs t. tallied_apart b trail.entries g hs t e tt (standing_on t.standing)) trail' entries (omega arith)))

-- ---- what became of the version

module _ {D : Type 0} (d : Ghosts D) (g g' : Group) (disk disk' : D) (at : ℕ) (k : List ℕ) (s : ℕ) where
  pub stayed : (result : Result Fixing RepairFault) → AddsNoEntry result → Fixes d g g' disk disk' at k s result → HasOnlyLooked d g g' disk disk'
  stayed (Ok fixing.Fixed) never f = absurd never
  stayed (Ok fixing.Gone) here f = f.0
  stayed (Ok fixing.InFlight) here f = f.0
  stayed (Err (Busy cells bytes)) here f = f
  stayed (Err NotReady) here f = f
  stayed (Err WriteFault) never f = absurd never
  stayed (Err Memory) here f = f
  stayed (Err ReadFault) never f = absurd never
  stayed (Err (Damaged file damaged)) here f = f

  -- a read failed
  pub missed_of : (result : Result Fixing RepairFault) → result ≡ Err ReadFault → Fixes d g g' disk disk' at k s result → HasOnlyLooked d g g' disk disk'
  missed_of result is f = subst (Fixes d g g' disk disk' at k s) is f

  pub fixed_of : (result : Result Fixing RepairFault) (x : Fixing) → (AddsNoEntry result → ⊥) → result ≡ Ok x → Fixes d g g' disk disk' at k s result → HasFixed d g g' disk disk' at k s × (x ≡ fixing.Fixed)
  fixed_of (Ok fixing.Fixed) x never same f = (f, (let z : ◌≡◌ {A = Result Fixing RepairFault} (Ok x) (Ok fixing.Fixed) = sym same in cc))
  fixed_of (Ok fixing.Gone) x never same f = absurd (never tt)
  fixed_of (Ok fixing.InFlight) x never same f = absurd (never tt)
  fixed_of (Err fault) x never same f = absurd (let z : ◌≡◌ {A = Result Fixing RepairFault} (Err fault) (Ok x) = same in cc)

  pub failed_of : (result : Result Fixing RepairFault) (fault : RepairFault) → (AddsNoEntry result → ⊥) → (result ≡ Err ReadFault → ⊥) → result ≡ Err fault → Fixes d g g' disk disk' at k s result → HasFailedRepair d g g' disk disk' at k s × (result ≡ Err WriteFault)
  failed_of (Ok x) fault never other same f = absurd (let z : ◌≡◌ {A = Result Fixing RepairFault} (Ok x) (Err fault) = same in cc)
  failed_of (Err WriteFault) fault never other same f = (f, refl)
  failed_of (Err (Busy cells bytes)) fault never other same f = absurd (never tt)
  failed_of (Err NotReady) fault never other same f = absurd (never tt)
  failed_of (Err Memory) fault never other same f = absurd (never tt)
  failed_of (Err ReadFault) fault never other same f = absurd (other refl)
  failed_of (Err (Damaged file damaged)) fault never other same f = absurd (never tt)

-- the index of a doubt in the group that was found
pub doubt_at : (groups xs : List Group) (place at : ℕ) (i : IndexId) (g dflt : Group) → xs ≡ groups → place < length xs
    → ((h : Group) → slice_get xs place ≡ Some h → (at < length h.indexes.items) × ((x : IndexRegion) → slice_get h.indexes.items at ≡ Some x → x.index.id ≡ i)) → g ≡ get_or groups place dflt
    → (at < length g.indexes.items) × ((x : IndexRegion) → slice_get g.indexes.items at ≡ Some x → x.index.id ≡ i)
doubt_at groups xs place at i g dflt same l found is = found g (ap (λ (ys : List Group). slice_get ys place) same ∙ got_some groups place dflt g (inside_groups groups xs place same l) is)

-- ---- what is in flight

module _ (b : Base) (es : List Entry) (legal : IsLegal b es) (g : Group) (right : IsRightGroup g) (tallied : HasTallied b es g) (at : ℕ) (d : Doubt) (named : (x : IndexRegion) → slice_get g.indexes.items at ≡ Some x → x.index.id ≡ d.index) where
  pub in_flight_at : IsChangeUnderWay g at d.key d.stamp → IsInFlight b es d
  in_flight_at w = in_flight b es g tallied.held tallied.tallied at w.index w.at (part_at (IsRightPart g.table) g.indexes.items right.parts at w.index w.at).table d (sym (named w.index w.at)) w.key w.left

  pub not_in_flight : (kept : List CellData) → IsRepair g at d.key d.stamp kept → IsInFlight b es d → ⊥
  not_in_flight kept w f = false≢true (sym w.decided ∙ flight_pending b es g tallied.held tallied.tallied at w.index w.at (part_at (IsRightPart g.table) g.indexes.items right.parts at w.index w.at).table d (sym (named w.index w.at)) w.key (λ y is ended. (batch_sound b es g.table.id.0 d.stamp y legal is).ended ended) f)

-- the index at the place, of a table that was looked at
pub named_looked : (g g' : Group) → HasLooked g g' → (at : ℕ) (i : IndexId) → ((x : IndexRegion) → slice_get g.indexes.items at ≡ Some x → x.index.id ≡ i) → (x : IndexRegion) → slice_get g'.indexes.items at ≡ Some x → x.index.id ≡ i
named_looked g g' looked at i named x there = (let z = looked_back g.indexes.items g'.indexes.items looked.indexes at x there in ap (λ (y : Index). y.id) z.1.1.index ∙ named z.0 z.1.0)

still_fixed : (c : Catalogue) (i : IndexId) (key : List ℕ) → catalogue_step c (Fixed i key) ≡ c
unfolding catalogue_step
still_fixed c i key = refl

standing_snoc : (b : Base) (es : List Entry) (g : Group) (seat calls : ℕ) (i : IndexId) (key : List ℕ) → AreStanding b es g → AreStanding b (es ++ record { seat = seat; calls = calls; act = Fixed i key } ∷ []) g
standing_snoc b es g seat calls i key a = (let
    e : Entry = record { seat = seat; calls = calls; act = Fixed i key } in let
    same : catalogue_of b (es ++ e ∷ []) ≡ catalogue_of b es = catalogue-snoc b es e ∙ still_fixed (catalogue_of b es) i key
    in record {
      table = ap (λ (c : Catalogue). c.tables g.table.id.0) same ∙ a.table;
      index = λ j x at. ap (λ (c : Catalogue). c.indexes x.index.id.0) same ∙ a.index j x at;
      all = λ y at of_table maintained. a.all y (ap (λ (c : Catalogue). c.indexes y.id.0) (sym same) ∙ at) of_table maintained;
    })

-- ---- a repair, as a whole

module _ {D : Type 0} (d : Ghosts D) (tells_left : (x : D) (moment file : ℕ) (bytes : List ℕ) → d.left x moment file bytes → IsTrue d.tells)
    (up_to_now : (x : D) (moment file : ℕ) (bytes : List ℕ) → d.left x moment file bytes → moment ≤ d.calls x) (b : Base) (sound premise : Type 0) (began : Beginning)
    (disk : D) (catalog : Catalog) (standing : Standing) (groups : List Group) (trail : Recorded) (late : Option Entry) (closed : Option ℕ) (k : IsKept d b sound premise began disk catalog standing groups trail late closed)
    (running : closed ≡ None) (place : ℕ) (g g' : Group) (l : place < length groups) (is : get_or groups place g ≡ g) (disk' : D) where
  abbrev es2 : List Entry
  es2 = trail.entries

  abbrev then2 : List Group
  then2 = slice_set groups place g'

  inside2 : place < length then2
  inside2 = (let n = length_set groups place g' in omega (arith, n, l))

  is2 : get_or then2 place g' ≡ g'
  is2 = got_set groups place g' g' l

  -- what was true holds of the disk that was read
  module _ (read : D) (reads : HasOnlyRead d disk read) where
    pub kept_read : IsKept d b sound premise began read catalog standing groups trail late closed
    kept_read = read_kept d disk read reads tells_left up_to_now b sound premise began catalog standing groups trail late closed k running

  pub stayed_flight : HasOnlyLooked d g g' disk disk' → (at : ℕ) (q : Doubt) → ((x : IndexRegion) → slice_get g.indexes.items at ≡ Some x → x.index.id ≡ q.index) → IsChangeUnderWay g' at q.key q.stamp → IsInFlight b es2 q
  stayed_flight h at q named = (let k' = fix_stayed d tells_left up_to_now b sound premise began disk catalog standing groups trail late closed k running place g g' l is disk' h
      in in_flight_at b es2 k.told.legal g' (all_at IsRightGroup then2 place g' inside2 is2 (k'.each.right running)) (all_at (HasTallied b es2) then2 place g' inside2 is2 (k'.each.tallied running)) at q (named_looked g g' h.looked at q.index named))

  pub fixed_kept : (at : ℕ) (key : List ℕ) (s : ℕ) → HasFixed d g g' disk disk' at key s → (seat calls : ℕ) (i : IndexId) (bytes : List ℕ) → ((x : IndexRegion) → slice_get g.indexes.items at ≡ Some x → x.index.id ≡ i) → calls ≡ d.calls disk'
      → (trail' : Recorded) → trail'.entries ≡ es2 ++ record { seat = seat; calls = calls; act = Fixed i bytes } ∷ [] → trail.room ≤ trail'.room → IsKept d b sound premise began disk' catalog standing then2 trail' late closed
  fixed_kept at key s f seat calls i bytes named called trail' entries room = (let
      k' = written_kept d tells_left up_to_now b sound premise began f.read catalog standing groups trail late closed (kept_read f.read f.reads) running place g g' l is disk' at key s f.looked f.has f.kept f.due f.wrote
      in noted_kept d tells_left up_to_now b sound premise began disk' catalog standing then2 trail late closed k' running place g' inside2 is2 seat calls i bytes called
      (stands_written d tells_left up_to_now b sound premise began f.read catalog standing groups trail late closed (kept_read f.read f.reads) running place g g' l is disk' at key s f.looked f.has f.kept f.due f.wrote i named)
      trail' entries (let before = k'.room in omega (arith, before, room)))

  pub fixed_flight : (at : ℕ) (q : Doubt) → HasFixed d g g' disk disk' at q.key q.stamp → ((x : IndexRegion) → slice_get g.indexes.items at ≡ Some x → x.index.id ≡ q.index) → (seat calls : ℕ) (i : IndexId) (bytes : List ℕ)
      → IsLegal b (es2 ++ record { seat = seat; calls = calls; act = Fixed i bytes } ∷ []) → IsInFlight b (es2 ++ record { seat = seat; calls = calls; act = Fixed i bytes } ∷ []) q → ⊥
  fixed_flight at q f named seat calls i bytes legal = (let
      e : Entry = record { seat = seat; calls = calls; act = Fixed i bytes } in let
      t = tallied_before d tells_left up_to_now b sound premise began f.read catalog standing groups trail late closed (kept_read f.read f.reads) running place g g' l is disk' at q.key q.stamp f.looked f.has f.kept f.due f.wrote in let
      t' : HasTallied b (es2 ++ e ∷ []) f.looked = record { held = t.held; tallied = tallied_apart b es2 f.looked t.held t.tallied e tt (standing_snoc b es2 f.looked seat calls i bytes t.tallied.standing) }
      in not_in_flight b (es2 ++ e ∷ []) legal f.looked (right_before d tells_left up_to_now b sound premise began f.read catalog standing groups trail late closed (kept_read f.read f.reads) running place g g' l is disk' at q.key q.stamp f.looked f.has) t' at q (named_looked g f.looked f.has at q.index named) f.kept f.due)

-- ---- the version, in the tables

slice_there : {A : Type 0} (xs : List A) (i : ℕ) (x : A) → i < length xs → slice_get (slice_set xs i x) i ≡ Some x
slice_there [] i x l = absurd (omega (arith, l))
slice_there (y ∷ xs) zero x l = refl
slice_there (y ∷ xs) (suc i) x l = slice_there xs i x (omega (arith, l))

module _ {D : Type 0} (d : Ghosts D) (groups : List Group) (place : ℕ) (g g' : Group) (l : place < length groups) (got : get_or groups place g ≡ g) (disk disk' : D) (at : ℕ) (q : Doubt) (there : at < length g.indexes.items)
    (named : (x : IndexRegion) → slice_get g.indexes.items at ≡ Some x → x.index.id ≡ q.index) where
  abbrev then3 : List Group
  then3 = slice_set groups place g'

  stands_no_more : HasOnlyLooked d g g' disk disk' → ((x : IndexRegion) → slice_get g'.indexes.items at ≡ Some x → stands_in g' x q.key q.stamp ≡ false) → StandsNoMore then3 q
  stands_no_more h judged = (let
      x = there_is g.indexes.items at there
      in let
      y = looked_on g.indexes.items g'.indexes.items h.looked.indexes at x.0 x.1
      in record {
        place = place;
        group = g';
        at = slice_there groups place g' l;
        part = at;
        index = y.0;
        of = y.1.0;
        id = named_looked g g' h.looked at q.index named y.0 y.1.0;
        gone = judged y.0 y.1.0;
      })

  stands_still : HasOnlyLooked d g g' disk disk' → IsChangeUnderWay g' at q.key q.stamp → StandsStill then3 q
  stands_still h w = record {
    place = place;
    group = g';
    at = slice_there groups place g' l;
    part = at;
    index = w.index;
    of = w.at;
    id = named_looked g g' h.looked at q.index named w.index w.at;
    stands = w.stands;
    under_way = w.left;
  }

  pub stayed_mends : (n : ℕ) (result : Result Fixing RepairFault) → AddsNoEntry result → Fixes d g g' disk disk' at q.key q.stamp result → (answer : Result Fixing StepFault) → Answers n result answer → IfOk answer (Mends groups then3 q)
  stayed_mends n (Ok fixing.Fixed) never f answer is = absurd never
  stayed_mends n (Ok fixing.Gone) here f answer is = subst (λ r. IfOk r (Mends groups then3 q)) (sym is) (inr (stands_no_more f.0 f.1))
  stayed_mends n (Ok fixing.InFlight) here f answer is = subst (λ r. IfOk r (Mends groups then3 q)) (sym is) (stands_still f.0 f.1)
  stayed_mends n (Err (Busy cells bytes)) here f answer is = subst (λ r. IfOk r (Mends groups then3 q)) (sym is) tt
  stayed_mends n (Err NotReady) here f answer is = subst (λ r. IfOk r (Mends groups then3 q)) (sym is) tt
  stayed_mends n (Err WriteFault) never f answer is = absurd never
  stayed_mends n (Err Memory) here f answer is = subst (λ r. IfOk r (Mends groups then3 q)) (sym is) tt
  stayed_mends n (Err ReadFault) never f answer is = absurd never
  stayed_mends n (Err (Damaged file damaged)) here f answer is = subst (λ r. IfOk r (Mends groups then3 q)) (sym is) tt

  pub fixed_mends : HasFixed d g g' disk disk' at q.key q.stamp → IsMended groups then3 q
  fixed_mends f = record {
    place = place;
    group = g;
    at = got_some groups place g g l (sym got);
    looked = f.looked;
    has = f.has;
    part = at;
    index = f.wrote.index;
    id = named_looked g f.looked f.has at q.index named f.wrote.index f.wrote.step.index;
    kept = f.kept;
    due = f.due;
    mended = g';
    region = f.wrote.region;
    step = f.wrote.step;
    cells = f.wrote.wrote.hands.cells;
    handed = f.wrote.wrote.hands.handed;
    reads = f.wrote.wrote.written.reads;
    then = refl;
  }

-- ---- what is answered

module _ {D : Type 0} (d : Ghosts D) (g g' : Group) (disk disk' : D) (at n : ℕ) (k k' : Known) (q : Doubt) (found : Finds k k') (flight : IsChangeUnderWay g' at q.key q.stamp → IsInFlight k'.base k'.seen q) where
  pub answers_ok : (result : Result Fixing RepairFault) → AddsNoEntry result → Fixes d g g' disk disk' at q.key q.stamp result → (answer : Result Fixing StepFault) → Answers n result answer → IfOk answer (DidFix k k' q)
  answers_ok (Ok fixing.Fixed) never f answer is = absurd never
  answers_ok (Ok fixing.Gone) here f answer is = subst (λ r. IfOk r (DidFix k k' q)) (sym is) found
  answers_ok (Ok fixing.InFlight) here f answer is = subst (λ r. IfOk r (DidFix k k' q)) (sym is) (found, flight f.1)
  answers_ok (Err (Busy cells bytes)) here f answer is = subst (λ r. IfOk r (DidFix k k' q)) (sym is) tt
  answers_ok (Err NotReady) here f answer is = subst (λ r. IfOk r (DidFix k k' q)) (sym is) tt
  answers_ok (Err WriteFault) never f answer is = absurd never
  answers_ok (Err Memory) here f answer is = subst (λ r. IfOk r (DidFix k k' q)) (sym is) tt
  answers_ok (Err ReadFault) never f answer is = absurd never
  answers_ok (Err (Damaged file damaged)) here f answer is = subst (λ r. IfOk r (DidFix k k' q)) (sym is) tt

  pub answers_refused : (sound : Type 0) (result : Result Fixing RepairFault) → ((file place : ℕ) → result ≡ Err (Damaged file place) → ⊥) → AddsNoEntry result → (answer : Result Fixing StepFault) → Answers n result answer → IfErr answer (Refuses (fix_cause sound) k k')
  answers_refused sound (Ok fixing.Fixed) undamaged never answer is = absurd never
  answers_refused sound (Ok fixing.Gone) undamaged here answer is = subst (λ r. IfErr r (Refuses (fix_cause sound) k k')) (sym is) tt
  answers_refused sound (Ok fixing.InFlight) undamaged here answer is = subst (λ r. IfErr r (Refuses (fix_cause sound) k k')) (sym is) tt
  answers_refused sound (Err (Busy cells bytes)) undamaged here answer is = subst (λ r. IfErr r (Refuses (fix_cause sound) k k')) (sym is) (tt, found.sees, found.running)
  answers_refused sound (Err NotReady) undamaged here answer is = subst (λ r. IfErr r (Refuses (fix_cause sound) k k')) (sym is) (tt, found.sees, found.running)
  answers_refused sound (Err WriteFault) undamaged never answer is = absurd never
  answers_refused sound (Err Memory) undamaged here answer is = subst (λ r. IfErr r (Refuses (fix_cause sound) k k')) (sym is) (tt, found.sees, found.running)
  answers_refused sound (Err ReadFault) undamaged never answer is = absurd never
  answers_refused sound (Err (Damaged file place)) undamaged here answer is = absurd (undamaged file place refl)

-- ---- the cause of a refusal

-- it is told with its answer
pub answers_caused : (groups : List Group) (place : ℕ) (g : Group) → slice_get groups place ≡ Some g → (at : ℕ) (x : IndexRegion) → slice_get g.indexes.items at ≡ Some x → (q : Doubt) → x.index.id ≡ q.index → (n : ℕ) → n ≡ x.region.number
    → (result : Result Fixing RepairFault) → ((fault : RepairFault) → result ≡ Err fault → RefusesRepair g at x q.key q.stamp fault) → (answer : Result Fixing StepFault) → Answers n result answer → IfErr answer (RefusesFix groups q)
answers_caused groups place g here at x there q id n number (Ok fixing) cause answer is = subst (λ r. IfErr r (RefusesFix groups q)) (sym is) tt
answers_caused groups place g here at x there q id n number (Err (Busy cells bytes)) cause answer is = subst (λ r. IfErr r (RefusesFix groups q)) (sym is) (record { place = place; group = g; at = here; part = at; index = x; of = there; id = id; refused = (number, cause (Busy cells bytes) refl) })
answers_caused groups place g here at x there q id n number (Err NotReady) cause answer is = subst (λ r. IfErr r (RefusesFix groups q)) (sym is) (record { place = place; group = g; at = here; part = at; index = x; of = there; id = id; refused = (number, cause NotReady refl) })
answers_caused groups place g here at x there q id n number (Err WriteFault) cause answer is = subst (λ r. IfErr r (RefusesFix groups q)) (sym is) tt
answers_caused groups place g here at x there q id n number (Err Memory) cause answer is = subst (λ r. IfErr r (RefusesFix groups q)) (sym is) tt
answers_caused groups place g here at x there q id n number (Err ReadFault) cause answer is = subst (λ r. IfErr r (RefusesFix groups q)) (sym is) tt
answers_caused groups place g here at x there q id n number (Err (Damaged file damaged)) cause answer is = subst (λ r. IfErr r (RefusesFix groups q)) (sym is) tt
