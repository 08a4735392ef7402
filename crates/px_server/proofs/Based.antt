-- Rows are given their base versions: what is true of a server stays so.
use Rattle.std.proofs.Common.{◌≡◌, ◌≢◌, ◌<◌, ◌≤◌, ◌+◌, ℕ, zero, suc, Bool, true, inl, inr, Option, Some, None, Result, Ok, Err, List, [], ◌∷◌, ◌++◌, length, get_or, map, slice_get, refl, sym, ap, subst, ◌∙◌, arith}
use Rattle.std.specs.Prelude.{IfOk, IsSome, IsTrue, nat_eq, sum_by}
use Rattle.std.specs.List.{AllByRecursion, slice_set}
use Rattle.std.proofs.lemmas.Bool.{cases_eq}
use Rattle.px_outside.specs.OnDisk.{Rose}
use Rattle.px_outside.specs.declared.disk.Disk.{Ghosts}
use Rattle.px_cells.specs.CellData.{CellData}
use Rattle.px_cells.specs.Order.{ReadsSame}
use Rattle.px_values.specs.declared.name.IndexId.{IndexId}
use Rattle.px_values.specs.declared.name.TableId.{TableId}
use Rattle.px_values.specs.declared.row.Value.{Value}
use Rattle.px_tables.specs.declared.index.Index.{Index}
use Rattle.px_tables.specs.declared.table.Table.{Table}
use Rattle.px_trail.specs.Batches.{IsDecided, has, is_distinct}
use Rattle.px_trail.specs.Legal.{Follows, IsLegal, MayCome}
use Rattle.px_trail.specs.Recorded.{Recorded}
use Rattle.px_trail.specs.States.{key_in, state_of}
use Rattle.px_trail.specs.Trail.{Base, Catalogue, catalogue_of, catalogue_step, horizon_of, index_of, open_points, table_of, table_shape}
use Rattle.px_trail.specs.declared.entry.Act.TheVariants.{Based}
use Rattle.px_trail.specs.declared.entry.Entry.{Entry}
use Rattle.px_trail.proofs.Growth.{catalogue-snoc, points-snoc}
use Rattle.px_calls.specs.Calls.{DidBase}
use Rattle.px_calls.specs.Causes.{Refuses, base_cause}
use Rattle.px_calls.specs.Known.{Adds, IsRunning, Known}
use Rattle.px_calls.specs.declared.fault.StepFault.{StepFault}
use Rattle.px_calls.specs.Requires.{IsBaseRowOf, MayBase, base_owners}
use Rattle.px_calls.specs.declared.query.BaseRow.{BaseRow}
use Rattle.px_calls.specs.declared.query.Point.{Point}
use Rattle.px_region.specs.Region.{read_of}
use Rattle.px_forms.specs.Indexes.{IndexForm}
use Rattle.px_world.specs.Events.{Base as BaseVersion}
use Rattle.px_indexed.specs.Worlds.{row_event}
use Rattle.px_groupworld.specs.Group.{GroupData, GroupKept, TableForm, no_part}
use Rattle.px_groupworld.specs.Steps.{Does, at_index, cells_data, with_cells}
use Rattle.px_openbatches.specs.Pending.{HeldBatch}
use Rattle.px_schema.specs.declared.standing.Standing.{Standing}
use Rattle.px_catalog.specs.declared.catalog.Catalog.{Catalog}
use Rattle.px_group.specs.Group.{IsRightGroup, IsRightPart, IsShownBy, form_of, points_in}
use Rattle.px_group.specs.declared.group.Group.{Group}
use Rattle.px_group.specs.declared.group.IndexRegion.{IndexRegion}
use Rattle.px_noting.proofs.Others.{apart_points}
use Rattle.px_defined.specs.Defined.{HasOnce}
use Rattle.px_defined.proofs.Lists as placed
use Rattle.px_defined.proofs.Once.{only_at}
use Rattle.px_recovery.proofs.Server.{newest_early}
use Rattle.px_rows.specs.Keys.{IsRightTable}
use Rattle.px_indexrow.specs.Form.{IsRightIndex}
use Rattle.px_repairs.specs.Repairs.{HasStayed}
use Rattle.px_baserows.specs.Rows.{IsBaseRow, StoodAt, owner_in, owners_in}
use Rattle.px_basing.specs.Basing.{AreGiven, Bases, HandsBases, StoodAtBirth, WroteBases, base_cells_of}
use Rattle.px_basing.specs.declared.fault.BaseFault.{BaseFault}
use Rattle.px_basing.specs.declared.fault.BaseFault.TheVariants.{Busy, NotReady, WriteFault, Memory}
use Rattle.px_basing.proofs.Given.{given_owners, given_row, owner_is}
use Rattle.px_basing.proofs.Noted.{elsewhere, shown_noted, steps_noted, tallied_noted}
use Rattle.px_basing.proofs.Right.{hands_of, right_based, tallied_based, traced_based}
use Rattle.px_basing.proofs.Shown.{based_shown, based_steps, bases_step}
use Rattle.px_built.specs.Built.{IsBuiltBy}
use Rattle.px_built.proofs.Tables.{built_based, built_stays}
use Rattle.px_server.specs.Bases.{AnswersBase, IsRefusedBase, RefusesBases}
use Rattle.px_server.specs.Kept.{AreBuilt, HasPoints, HasTallied, IsKept, IsShutAt, number_in, owed, owed_by}
use Rattle.px_server.specs.Others.{Beginning}
use Rattle.px_server.proofs.Acted.{once_at, points_at, right_at, tallied_at}
use Rattle.px_server.proofs.Built.{IsUnbased, run_at, same_ids, unbased}
use Rattle.px_server.proofs.Elsewhere.{IsOfTable}
use Rattle.px_server.proofs.Forms.{get_some}
use Rattle.px_server.proofs.Handed.{IndexGoes, IndexShows, index_noted, index_shut}
use Rattle.px_server.proofs.Regions.{ToIndex}
use Rattle.px_server.proofs.IndexFound.{id_is, number_found}
use Rattle.px_server.proofs.OpenBatches.{stamp_in}
use Rattle.px_server.proofs.Seen.{one_more, stays}
use Rattle.px_server.proofs.Told.{cells_elsewhere}

-- ---- the rows

base_rows : (t : Table) (x : Index) → IsRightTable t → IsRightIndex t x → (xs : List BaseRow) → AllByRecursion (IsBaseRowOf t x) xs → AllByRecursion (IsBaseRow t x) xs
base_rows t x table right [] all = tt
base_rows t x table right (y ∷ xs) all = (given_row t x y table right all.0.fits all.0.key all.0.short, base_rows t x table right xs all.1)

stood_rows : (b : Base) (es : List Entry) (t : Table) (p : ℕ) (xs : List BaseRow) → AllByRecursion (λ f. state_of b es t.id.0 (key_in (table_shape t) f.row) p ≡ Some f.row) xs → AllByRecursion (λ x. state_of b es t.id.0 (owner_in t x.row) p ≡ Some x.row) xs
stood_rows b es t p [] all = tt
stood_rows b es t p (y ∷ xs) all = (subst (λ (r : List Value). state_of b es t.id.0 r p ≡ Some y.row) (owner_is t y.row) all.0, stood_rows b es t p xs all.1)

-- ---- what stays true of the indexes

module _ (f : TableForm) (es : List Entry) (v : GroupData) (k : GroupKept f es v) (e : Entry) (place : ℕ) (there : place < length v.indexes) (cells : List CellData) (rows : List (List Value)) (id : IndexId) (is : e.act ≡ Based id rows)
    (does : Does f (λ i r. at_index place i (row_event BaseVersion (has rows r))) es v (es ++ e ∷ []) (cells_data place cells v)) (others : (i : ℕ) → i < length v.indexes → i ≢ place → id.0 ≢ (get_or v.indexes i no_part).id) (built : AreBuilt f es v) where
  abbrev now : GroupData
  now = cells_data place cells v

  ids : (i : ℕ) → i < length v.indexes → (get_or now.indexes i no_part).id ≡ (get_or v.indexes i no_part).id
  ids i l = same_ids v.indexes place (with_cells cells (get_or v.indexes place no_part)) refl i l

  based_each : (i : ℕ) → i < length v.indexes → IsBuiltBy f (es ++ e ∷ []) now i
  based_each i l = elim (cases_eq i place) [
    | inl at ↦ subst (λ (n : ℕ). IsBuiltBy f (es ++ e ∷ []) now n) (sym at) (built_based f es v k e now place there rows does id is (ids place there) (built.each place there))
    | inr other ↦
        built_stays f es v k (λ j r. at_index place j (row_event BaseVersion (has rows r))) (es ++ e ∷ []) now does i l (λ r. run_at BaseVersion tt (nat_eq place i) (has rows r)) (ids i l)
        (λ r h. inl (unbased es e (get_or v.indexes i no_part).id (subst (IsUnbased (get_or v.indexes i no_part).id) (sym is) (others i l other)) r h)) (built.each i l)
  ]

  pub are_based : AreBuilt f (es ++ e ∷ []) now
  are_based = record { each = λ i l. based_each i (let c = does.count in omega (arith, c, l)) }

-- ---- the step

some_is : {A : Type 0} (x y : A) → Some x ≡ Some y → x ≡ y
some_is x y e = cc

module _ {D : Type 0} (d : Ghosts D) (tells_left : (x : D) (moment file : ℕ) (bytes : List ℕ) → d.left x moment file bytes → IsTrue d.tells)
    (up_to_now : (x : D) (moment file : ℕ) (bytes : List ℕ) → d.left x moment file bytes → moment ≤ d.calls x) (b : Base) (sound premise : Type 0) (began : Beginning)
    (disk : D) (catalog : Catalog) (standing : Standing) (groups : List Group) (trail : Recorded) (late : Option Entry) (closed : Option ℕ) (k : IsKept d b sound premise began disk catalog standing groups trail late closed)
    (running : closed ≡ None) (place : ℕ) (g : Group) (l : place < length groups) (is : get_or groups place g ≡ g) (seat : ℕ) (damaged : ℕ → ℕ → Bool) (p : Point) (mine : g.table.id ≡ p.table) (i : IndexId) (xs : List BaseRow)
    (may : MayBase sound (record { seat = seat; base = b; damaged = damaged; alone = true; seen = trail.entries }) p i.0 xs) where
  abbrev es : List Entry
  es = trail.entries

  right : IsRightGroup g
  right = right_at d b sound premise began disk catalog standing groups trail late closed k place g l is running

  tallied : HasTallied b es g
  tallied = tallied_at d b sound premise began disk catalog standing groups trail late closed k place g l is running

  once : HasOnce g
  once = once_at d b sound premise began disk catalog standing groups trail late closed k place g l is running

  table_same : g.table ≡ may.table
  table_same = some_is g.table may.table (sym tallied.tallied.standing.table ∙ (ap (λ (u : TableId). table_of b es u.0) mine ∙ may.table_is))

  -- the index is one of the group's
  pub index_there : ((m : ℕ) (x : IndexRegion) → slice_get g.indexes.items m ≡ Some x → x.index.id ≡ i → ⊥) → ⊥
  index_there not = (let
      number : may.index.id.0 ≡ i.0 = number_found standing.indexes i.0 may.index (k.told.agrees.indexes i.0 ∙ may.index_is)
      in let
      here = tallied.tallied.standing.all may.index (ap (λ (n : ℕ). index_of b es n) number ∙ may.index_is) (may.owner ∙ ap (λ (u : TableId). u.0) (sym mine)) may.state
      in not here.0 here.1.0 here.1.1.0 (ap (λ (y : Index). y.id) here.1.1.1 ∙ id_is may.index.id i number))

  module _ (at : ℕ) (named : (x : IndexRegion) → slice_get g.indexes.items at ≡ Some x → x.index.id ≡ i) where
    index_same : (x : IndexRegion) → slice_get g.indexes.items at ≡ Some x → x.index ≡ may.index
    index_same x there = some_is x.index may.index (sym (tallied.tallied.standing.index at x there) ∙ (ap (λ (n : IndexId). index_of b es n.0) (named x there) ∙ may.index_is))

    part : (x : IndexRegion) → slice_get g.indexes.items at ≡ Some x → IsRightPart g.table x
    part x there = placed.all_at (IsRightPart g.table) g.indexes.items at x there right.parts

    pub owners_are : base_owners g.table xs ≡ owners_in g.table xs
    owners_are = given_owners g.table xs

    pub given : AreGiven g at xs
    given x there = record {
      each = base_rows g.table x.index right.table (part x there).index xs
          (subst (λ (t : Table). AllByRecursion (IsBaseRowOf t x.index) xs) (sym table_same) (subst (λ (y : Index). AllByRecursion (IsBaseRowOf may.table y) xs) (sym (index_same x there)) may.each));
      distinct = subst (λ (rows : List (List Value)). is_distinct rows ≡ true) (given_owners may.table xs ∙ ap (λ (t : Table). owners_in t xs) (sym table_same)) may.distinct;
    }

    stood : sound → StoodAtBirth b es g at xs
    stood sounds x there = subst (λ (n : ℕ). StoodAt b es g.table n xs) (sym (ap (λ (y : Index). y.birth) (index_same x there) ∙ may.birth)) (record {
      horizon = subst (λ (u : TableId). horizon_of b u.0 es ≤ p.stamp) (sym mine) may.low;
      decided = subst (λ (u : TableId). IsDecided es u.0 p.stamp) (sym mine) may.decided;
      each = stood_rows b es g.table p.stamp xs
          (subst (λ (t : Table). AllByRecursion (λ f. state_of b es g.table.id.0 (key_in (table_shape t) f.row) p.stamp ≡ Some f.row) xs) (sym table_same)
          (subst (λ (u : TableId). AllByRecursion (λ f. state_of b es u.0 (key_in (table_shape may.table) f.row) p.stamp ≡ Some f.row) xs) (sym mine) (may.there sounds)));
    })

    -- whatever is read of the region then, as long as it reads as the cells before all that there were
    goes : sound → (x : IndexRegion) → slice_get g.indexes.items at ≡ Some x → (put : List CellData) → ReadsSame put (base_cells_of g x xs) → IndexGoes b es es g at x put
    goes sounds x there put same index v hs t shown told new reads = record {
      table_data = cells_data at new v;
      kept = (bases_step g at xs right given b es (stood sounds) index v hs shown x there put same new reads).kept.group;
      high = omega arith;
      low = refl;
      cells = refl;
      indexes = refl;
    }

    module _ (g' : Group) (disk' : D) where
      abbrev then : List Group
      then = slice_set groups place g'

      -- they are written, and the entry tells of them
      module _ (w : WroteBases d g g' disk disk' at xs) (calls : ℕ) (called : calls ≡ d.calls disk') where
        abbrev rows : List (List Value)
        rows = owners_in g.table xs

        abbrev pub entry : Entry
        entry = record { seat = seat; calls = calls; act = Based i rows }

        still : (c : Catalogue) → catalogue_step c entry.act ≡ c
        unfolding catalogue_step
        still c = refl

        may_come : MayCome b es entry
        unfolding Follows
        may_come = record {
          follows = subst (λ (o : Option Index). IsSome o) (sym may.index_is) refl;
          shut = λ past. k.told.closing ∙ running;
          calls = (let n = newest_early (d.calls disk) 0 es (omega arith) k.server.early in let later = w.wrote.hands.writes.counts.later in omega (arith, n, later, called));
        }

        of : IsOfTable b es (number_in g) entry
        of = record {
          may = may_come;
          still = still;
          apart = λ id other. tt;
          unshut = refl;
          own = λ x found. ap (λ (y : Index). y.table.0) (some_is x may.index (sym found ∙ may.index_is)) ∙ (may.owner ∙ ap (λ (u : TableId). u.0) (sym mine));
        }

        to : ToIndex g g' at w.index w.region
        to = record { table = w.step.table; points = w.step.points; index = w.step.index; rows = w.step.rows; indexes = w.step.indexes }

        points_then : HasPoints (es ++ entry ∷ []) g'
        points_then q s =
            ap (λ (t : Table). open_points q t.id.0 s (es ++ entry ∷ [])) w.step.table
            ∙ (points-snoc q g.table.id.0 s es entry
            ∙ (apart_points g.table.id q s (open_points q g.table.id.0 s es) seat (Based i rows) tt
            ∙ (points_at d b sound premise began disk catalog standing groups trail late closed k place g l is q s ∙ ap (λ n. points_in q s n.items) (sym w.step.points))))

        -- the other indexes have other numbers
        others : (index : ℕ → IndexForm) (v : GroupData) (hs : List HeldBatch) → IsShownBy b index es g v hs → (j : ℕ) → j < length v.indexes → j ≢ at → i.0 ≢ (get_or v.indexes j no_part).id
        others index v hs shown j m other same = (let
            y = get_some g.indexes.items j (let n = shown.count in omega (arith, m, n))
            in other ((only_at g once at).each j at y.0 w.index y.1 w.step.index refl (sym (same ∙ (shown.parts j y.0 y.1).id) ∙ ap (λ (n : IndexId). n.0) (sym (named w.index w.step.index)))))

        shows : sound → IndexShows b es (es ++ entry ∷ []) g g' (λ hs. hs) at w.region
        shows sounds index v hs t shown told built = (let
            f = form_of b index g
            in let
            now = cells_data at (read_of w.region) v
            in let
            steps = steps_noted entry i rows refl f (λ j r. at_index at j (row_event BaseVersion (has rows r))) es v now hs may_come (based_steps d g g' disk disk' at xs right given b es (stood sounds) index v hs shown w)
            in let
            there : at < length v.indexes = (let n = shown.count in let q = placed.within g.indexes.items at w.index w.step.index in omega (arith, n, q))
            in record {
              then = record { table_data = now; kept = steps.kept.group; high = omega arith; low = refl; cells = refl; indexes = refl };
              shown = shown_noted entry i rows refl b index es g' now hs may_come (based_shown d g g' disk disk' at xs right given b es (stood sounds) index v hs shown w);
              told = cells_elsewhere f es now (record { each = told.told.each }) entry (elsewhere entry i rows refl g.table.id);
              built = are_based f es v shown.kept.group entry at there (read_of w.region) rows i refl steps.does (others index v hs shown) built;
            })

        owed_written : owed g' ≤ owed g
        owed_written = (let q = ap (λ n. length n.items) w.step.points in let m = ap (λ n. sum_by owed_by n.items) w.step.batches in omega (arith, q, m))

        pub based_kept : (trail' : Recorded) → trail'.entries ≡ es ++ entry ∷ [] → trail.room ≤ trail'.room → IsKept d b sound premise began disk' catalog standing then trail' late closed
        based_kept trail' entries room =
            index_noted d tells_left up_to_now b sound premise began disk catalog standing groups trail late closed k running place g g' l is disk' at w.index w.region w.wrote.hands.cells to w.wrote.hands.writes w.wrote.written w.wrote.hands.writes.horizon
            (right_based d g g' disk disk' at xs right given w) entry refl called of refl (λ hs. hs) (λ hs t. tallied_noted entry i rows refl b es g' hs (tallied_based d g g' disk disk' at xs b es hs t (hands_of d g g' disk disk' at xs w))) points_then
            (λ sounds. goes sounds w.index w.step.index w.wrote.hands.cells w.wrote.hands.handed.reads) shows trail' entries (let n = owed_written in omega (arith, n, room))

        pub did_base : (trail' : Recorded) → trail'.entries ≡ es ++ entry ∷ [] → trail.room ≤ trail'.room → (n : ℕ) → n ≡ length trail'.entries
            → DidBase (record { seat = seat; base = b; damaged = damaged; alone = true; seen = es }) (record { seat = seat; base = b; damaged = damaged; alone = true; seen = trail'.entries }) p i xs n
        did_base trail' entries room n long = (let
            before : Known = record { seat = seat; base = b; damaged = damaged; alone = true; seen = es }
            in record {
              table = g.table;
              table_is = ap (λ (ys : List Entry). table_of b ys p.table.0) entries ∙ (ap (λ (c : Catalogue). c.tables p.table.0) (catalogue-snoc b es entry ∙ still (catalogue_of b es)) ∙ (ap (λ (u : TableId). table_of b es u.0) (sym mine) ∙ tallied.tallied.standing.table));
              adds = subst (λ (os : List (List Value)). Adds before (record before { seen = trail'.entries }) (Based i os)) (sym owners_are) (one_more before trail'.entries calls (Based i rows) k.told.legal entries (based_kept trail' entries room).told.legal);
              at_is = long;
            })

      -- or the disk failed
      pub unbased_kept : HandsBases d g g' disk disk' at xs → (shut : Entry) (call : ℕ) → IsShutAt shut call → call ≡ d.calls disk' → Rose d disk disk' → (trail' : Recorded) → trail'.entries ≡ es ++ shut ∷ [] → trail.room ≤ trail'.room + 1
          → IsKept d b sound premise began disk' catalog standing then trail' None (Some call)
      unbased_kept w shut call shut-is shut_at rose trail' entries room = (let
          to : ToIndex g g' at w.index w.region = record { table = w.step.table; points = w.step.points; index = w.step.index; rows = w.step.rows; indexes = w.step.indexes }
          in let
          same : owed g' ≡ owed g = (let q = ap (λ n. length n.items) w.step.points in let m = ap (λ n. sum_by owed_by n.items) w.step.batches in omega (arith, q, m))
          in index_shut d tells_left up_to_now b sound premise began disk catalog standing groups trail late closed k running place g g' l is disk' at w.index w.region w.hands.cells to w.hands.writes
          shut call shut-is shut_at rose (λ t. traced_based d g g' disk disk' at xs es t w) (ap (λ q. map stamp_in q.items) w.step.batches) (λ sounds. goes sounds w.index w.step.index w.hands.cells w.hands.handed.reads) trail' entries (omega (arith, same, room)))

-- ---- what became of them

module _ {D T : Type 0} (d : Ghosts D) (g g' : Group) (disk disk' : D) (at : ℕ) (xs : List BaseRow) where
  pub bases_written : (result : Result T BaseFault) (done : T) → result ≡ Ok done → Bases d g g' disk disk' at xs result → WroteBases d g g' disk disk' at xs
  bases_written (Ok x) done same w = w
  bases_written (Err f) done same w = absurd (let z : ◌≡◌ {A = Result T BaseFault} (Err f) (Ok done) = same in cc)

  pub bases_failed : (result : Result T BaseFault) → result ≡ Err WriteFault → Bases d g g' disk disk' at xs result → HandsBases d g g' disk disk' at xs
  bases_failed (Ok x) same w = absurd (let z : ◌≡◌ {A = Result T BaseFault} (Ok x) (Err WriteFault) = same in cc)
  bases_failed (Err WriteFault) same w = w
  bases_failed (Err (Busy region cells bytes)) same w = absurd (let z : ◌≡◌ {A = Result T BaseFault} (Err (Busy region cells bytes)) (Err WriteFault) = same in cc)
  bases_failed (Err (NotReady region)) same w = absurd (let z : ◌≡◌ {A = Result T BaseFault} (Err (NotReady region)) (Err WriteFault) = same in cc)
  bases_failed (Err Memory) same w = absurd (let z : ◌≡◌ {A = Result T BaseFault} (Err Memory) (Err WriteFault) = same in cc)

  pub bases_stayed : (result : Result T BaseFault) (fault : BaseFault) → result ≡ Err fault → (fault ≡ WriteFault → ⊥) → Bases d g g' disk disk' at xs result → HasStayed g g' disk disk'
  bases_stayed (Ok x) fault same other w = absurd (let z : ◌≡◌ {A = Result T BaseFault} (Ok x) (Err fault) = same in cc)
  bases_stayed (Err WriteFault) fault same other w = absurd (other (let z : ◌≡◌ {A = Result T BaseFault} (Err WriteFault) (Err fault) = same in cc))
  bases_stayed (Err (Busy region cells bytes)) fault same other w = w
  bases_stayed (Err (NotReady region)) fault same other w = w
  bases_stayed (Err Memory) fault same other w = w

-- why they aren't written, where the disk didn't fail
pub unbased_refused : (k : Known) → IsLegal k.base k.seen → IsRunning k → (fault : BaseFault) (answer : StepFault) → AnswersBase fault answer → (fault ≡ WriteFault → ⊥) → Refuses base_cause k k answer
unbased_refused k legal running (Busy region cells bytes) answer is other = subst (λ (f : StepFault). Refuses base_cause k k f) (sym is) (tt, stays k legal, running)
unbased_refused k legal running (NotReady region) answer is other = subst (λ (f : StepFault). Refuses base_cause k k f) (sym is) (tt, stays k legal, running)
unbased_refused k legal running WriteFault answer is other = absurd (other refl)
unbased_refused k legal running Memory answer is other = subst (λ (f : StepFault). Refuses base_cause k k f) (sym is) (tt, stays k legal, running)

-- a list has what stands at a place within it
pub there_at : {A : Type 0} (xs : List A) (n : ℕ) → n < length xs → (x : A) × (slice_get xs n ≡ Some x)
there_at [] n l = absurd (omega (arith, l))
there_at (x ∷ xs) zero l = (x, refl)
there_at (x ∷ xs) (suc n) l = there_at xs n (omega (arith, l))

-- the cause of a refusal is told with its answer
pub refuses_bases : (groups : List Group) (p : Point) (i : IndexId) (xs : List BaseRow) (fault : BaseFault) (answer : StepFault) → AnswersBase fault answer → IsRefusedBase groups p i xs fault → RefusesBases groups p i xs answer
refuses_bases groups p i xs (Busy region cells bytes) answer is r = subst (RefusesBases groups p i xs) (sym is) r
refuses_bases groups p i xs (NotReady region) answer is r = subst (RefusesBases groups p i xs) (sym is) r
refuses_bases groups p i xs WriteFault answer is r = subst (RefusesBases groups p i xs) (sym is) tt
refuses_bases groups p i xs Memory answer is r = subst (RefusesBases groups p i xs) (sym is) tt

pub got_ok : {T E : Type 0} (P : T → Type 0) (result : Result T E) (x : T) → result ≡ Ok x → IfOk result P → P x
got_ok {T} {E} P (Ok y) x same h = subst P (let z : ◌≡◌ {A = Result T E} (Ok y) (Ok x) = same in cc) h
got_ok {T} {E} P (Err f) x same h = absurd (let z : ◌≡◌ {A = Result T E} (Err f) (Ok x) = same in cc)
