-- What is in doubt at a point stays so: where tables are looked at, where regions are flushed, and where other keys are repaired.
use Rattle.std.proofs.Common.{◌≡◌, ◌≢◌, ◌<◌, ◌≤◌, ℕ, zero, suc, max, Bool, true, false, ◌&&◌, ◌||◌, Option, None, Some, Result, Ok, Err, List, [], ◌∷◌, length, get_or, slice_get, set, refl, sym, ap, subst, ◌∙◌, inl, inr, arith}
use Rattle.std.specs.Prelude.{IfErr, IfOk, nat_eq, nat_le, not}
use Rattle.std.proofs.lemmas.Bool.{eq-eqb, false≢true}
use Rattle.std.proofs.lemmas.Bool.Decides.{nat_tests}
use Rattle.std.specs.List.{AllByRecursion, list_any, slice_set}
use Rattle.px_outside.specs.declared.disk.Disk.{Ghosts}
use Rattle.px_tables.specs.declared.index.Index.{Index}
use Rattle.px_values.specs.declared.name.IndexId.{IndexId}
use Rattle.px_values.specs.declared.name.TableId.{TableId}
use Rattle.px_cells.specs.Contents.{value_at}
use Rattle.px_trail.specs.Answers.{IsAmong}
use Rattle.px_trail.specs.Recorded.{Recorded}
use Rattle.px_trail.specs.Trail.{Base, catalogue_of, index_of}
use Rattle.px_trail.specs.declared.entry.Entry.{Entry}
use Rattle.px_calls.specs.Doubtful.{AreDoubtful, IndexVersion, IsForRoom, version_of}
use Rattle.px_calls.specs.Looks.{AreDoubtsOf}
use Rattle.px_calls.specs.declared.fault.StepFault.{StepFault}
use Rattle.px_calls.specs.declared.query.By.TheVariants.{Index as ByIndex}
use Rattle.px_calls.specs.declared.query.Doubt.{Doubt}
use Rattle.px_calls.specs.declared.query.Fixing.{Fixing}
use Rattle.px_calls.specs.declared.query.Fixing.TheVariants as fixing
use Rattle.px_calls.specs.declared.query.FoundKey.{FoundKey}
use Rattle.px_calls.specs.declared.query.FoundKey.TheVariants.{InDoubt}
use Rattle.px_calls.specs.declared.query.Path.{Path}
use Rattle.px_calls.specs.declared.query.Point.{Point}
use Rattle.px_looks.specs.Found.{at_key}
use Rattle.px_looks.specs.Versions.{version_at}
use Rattle.px_looks.specs.declared.version.KeyVersion.{KeyVersion}
use Rattle.px_region.specs.Region.{read_of}
use Rattle.px_region.specs.declared.region.Region.{Region}
use Rattle.px_schema.specs.declared.standing.Standing.{Standing}
use Rattle.px_catalog.specs.declared.catalog.Catalog.{Catalog}
use Rattle.px_shown.specs.Told.{reach_of}
use Rattle.px_group.specs.Group.{IsRightGroup, IsRightPart}
use Rattle.px_group.specs.declared.group.Group.{Group}
use Rattle.px_group.specs.declared.group.IndexRegion.{IndexRegion}
use Rattle.px_merge.specs.Kept.{IsKeptList}
use Rattle.px_forgotten.specs.Forgotten.{at_horizon}
use Rattle.px_defined.specs.Defined.{HasOnce}
use Rattle.px_reading.specs.Doubts.{version_seen}
use Rattle.px_reading.specs.Looked.{AreLookedAt, HasLooked}
use Rattle.px_reading.specs.Versions.{IsOfVersion, version_to}
use Rattle.px_reading.proofs.Looked.{looked_on, part_at}
use Rattle.px_pointreads.specs.Points.{AreOfIndex, GroupLacksIndex, IsReadAt}
use Rattle.px_pointreads.proofs.Asked.{there_is}
use Rattle.px_recovery.proofs.Tables.{one_place}
use Rattle.px_repairs.specs.Repairs.{Fixes, HasFixed, HasOnlyLooked, IsJudged, is_doubt, stands_in}
use Rattle.px_repairs.specs.declared.judging.Judged.TheVariants as judged
use Rattle.px_repairs.specs.declared.repairing.RepairFault.{RepairFault}
use Rattle.px_repairs.specs.declared.repairing.RepairFault.TheVariants.{Busy, NotReady, ReadFault, Damaged, WriteFault, Memory}
use Rattle.px_server.specs.Kept.{AreShown, HasShown, HasTallied, IsKept, forms_in, number_in}
use Rattle.px_server.specs.Others.{Beginning}
use Rattle.px_server.specs.Repairs.{Answers, AddsNoEntry}
use Rattle.px_server.specs.Sights.{has_doubt, have_doubt, is_seen_in, table_has_doubt}
use Rattle.px_server.specs.Upkeep.{HasStepped, SteppedTable}
use Rattle.px_server.proofs.Doubted.{HasSameStatus, and_left, and_right, any_at, any_put, any_set, at_any, both, doubt_within, repaired_beside, same_doubt, seen_below, some_same}
use Rattle.px_server.proofs.Forgot.{kept_doubt}
use Rattle.px_server.proofs.Lists.{all_at, got_set}
use Rattle.px_server.proofs.Looked.{looked_kept}
use Rattle.px_server.proofs.Numbers.{once_at}
use Rattle.px_server.proofs.Pointed.{distinct_groups}
use Rattle.px_server.proofs.ReadAt.{inside, read_at}

-- ---- numbers

le_test : (a b : ℕ) → a ≤ b → nat_le a b ≡ true
le_test a b l = grind (arith, nat_tests)

le_of : (a b : ℕ) → nat_le a b ≡ true → a ≤ b
le_of a b e = grind (arith, nat_tests)

eq_of : (a b : ℕ) → nat_eq a b ≡ true → a ≡ b
eq_of a b e = grind (arith, nat_tests)

-- ---- a table that was looked at

module _ (p : Point) (v : IndexVersion) where
  -- an index of which the same is read
  pub same_index : (x y : IndexRegion) → y.index ≡ x.index → read_of y.region ≡ read_of x.region → has_doubt p v y ≡ has_doubt p v x
  same_index x y index cells = λ i. is_seen_in p v (index i) (at_key (value_at (cells i)) v.key)

  looked_indexes : (xs ys : List IndexRegion) → AreLookedAt xs ys → list_any (has_doubt p v) ys ≡ list_any (has_doubt p v) xs
  looked_indexes [] [] l = refl
  looked_indexes [] (y ∷ ys) l = absurd l
  looked_indexes (x ∷ xs) [] l = absurd l
  looked_indexes (x ∷ xs) (y ∷ ys) l = (let one = same_index x y l.0.0 l.0.1.alike.store in let others = looked_indexes xs ys l.1 in (λ i. one i || others i))

  pub looked_table : (g g' : Group) → HasLooked g g' → table_has_doubt p v g' ≡ table_has_doubt p v g
  looked_table g g' l = (let all = looked_indexes g.indexes.items g'.indexes.items l.indexes in (λ i. nat_eq (l.table i).id.0 p.table.0 && (nat_le (l.horizon i) (reach_of p) && all i)))

  -- a region of an index goes on, of which the same tells whether it is in doubt
  put_table : (g g' : Group) (place : ℕ) (x y : IndexRegion) → slice_get g.indexes.items place ≡ Some x → g'.indexes.items ≡ set g.indexes.items place y → g'.table ≡ g.table → g'.horizon ≡ g.horizon → (g.horizon ≤ reach_of p → has_doubt p v y ≡ has_doubt p v x) → table_has_doubt p v g' ≡ table_has_doubt p v g
  put_table g g' place x y at indexes table horizon same = (let
      all : g.horizon ≤ reach_of p → list_any (has_doubt p v) g'.indexes.items ≡ list_any (has_doubt p v) g.indexes.items = (λ above. ap (list_any (has_doubt p v)) indexes ∙ any_put (has_doubt p v) g.indexes.items place x y at (same above))
      in let
      one : (nat_le g'.horizon (reach_of p) && list_any (has_doubt p v) g'.indexes.items) ≡ (nat_le g.horizon (reach_of p) && list_any (has_doubt p v) g.indexes.items) = ap (λ (h : ℕ). nat_le h (reach_of p) && list_any (has_doubt p v) g'.indexes.items) horizon ∙ under (nat_le g.horizon (reach_of p)) refl (λ above. all (le_of g.horizon (reach_of p) above))
      in (λ i. nat_eq (table i).id.0 p.table.0 && one i))
    where
      under : (c : Bool) → nat_le g.horizon (reach_of p) ≡ c → (nat_le g.horizon (reach_of p) ≡ true → list_any (has_doubt p v) g'.indexes.items ≡ list_any (has_doubt p v) g.indexes.items)
          → (c && list_any (has_doubt p v) g'.indexes.items) ≡ (c && list_any (has_doubt p v) g.indexes.items)
      under true e same = same e
      under false e same = refl

  -- a step of the files of a region, which may forget at the table's horizon
  forgot_index : (g : Group) → IsRightGroup g → (place : ℕ) (x : IndexRegion) → slice_get g.indexes.items place ≡ Some x → (new : Region) → IsKeptList (read_of x.region) g.horizon (read_of new) → g.horizon ≤ reach_of p → has_doubt p v (record x { region = new }) ≡ has_doubt p v x
  forgot_index g right place x at new keeps above = (let
      shape = (part_at (IsRightPart g.table) g.indexes.items right.parts place x at).keys
      in let
      one = kept_doubt g.table x.index (read_of x.region) shape g.horizon (read_of new) keeps (reach_of p) above v.key v.stamp x.index.included
      in ap (λ (t : Bool). nat_eq x.index.id.0 v.index.0 && (nat_le x.index.birth (reach_of p) && t)) one)

  stepped_index : {D : Type 0} (d : Ghosts D) (g : Group) → IsRightGroup g → (place : ℕ) (x : IndexRegion) → slice_get g.indexes.items place ≡ Some x → (new : Region) (disk disk' : D) → HasStepped d x.region new disk disk' g.horizon → g.horizon ≤ reach_of p → has_doubt p v (record x { region = new }) ≡ has_doubt p v x
  stepped_index d g right place x at new disk disk' (inl st) above = same_index x (record x { region = new }) refl st.read
  stepped_index d g right place x at new disk disk' (inr fo) above = forgot_index g right place x at new fo.forgotten.kept above

  pub stepped_table : {D : Type 0} (d : Ghosts D) (g g' : Group) (disk disk' : D) → IsRightGroup g → SteppedTable d g g' disk disk' → table_has_doubt p v g' ≡ table_has_doubt p v g
  stepped_table d g g' disk disk' right (inl r) = ap (table_has_doubt p v) r.rows.same
  stepped_table d g g' disk disk' right (inr r) = (let s = r.index in
      put_table g g' s.place s.index (record s.index { region = s.region }) s.is s.indexes (ap (λ (h : Group). h.table) s.same) (ap (λ (h : Group). h.horizon) s.same) (stepped_index d g right s.place s.index s.is s.region disk disk' r.stepped))

  -- the horizon rises to where the point sees, if it is one of the table's
  pub raised_table : (g g' : Group) (h : ℕ) → g' ≡ at_horizon h g → g.horizon < h → (g.table.id.0 ≡ p.table.0 → h ≤ reach_of p) → table_has_doubt p v g' ≡ table_has_doubt p v g
  raised_table g g' h group above sees = ap (table_has_doubt p v) group ∙ by (nat_eq g.table.id.0 p.table.0) refl
    where
      both_above : h ≤ reach_of p → nat_le h (reach_of p) ≡ nat_le g.horizon (reach_of p)
      both_above le = le_test h (reach_of p) le ∙ sym (le_test g.horizon (reach_of p) (omega (arith, le, above)))

      by : (c : Bool) → nat_eq g.table.id.0 p.table.0 ≡ c → (c && (nat_le h (reach_of p) && list_any (has_doubt p v) g.indexes.items)) ≡ (c && (nat_le g.horizon (reach_of p) && list_any (has_doubt p v) g.indexes.items))
      by true e = ap (λ (t : Bool). t && list_any (has_doubt p v) g.indexes.items) (both_above (sees (eq_of g.table.id.0 p.table.0 e)))
      by false e = refl

  -- one table goes on so
  pub put_tables : (groups : List Group) (place : ℕ) (g g' : Group) → place < length groups → get_or groups place g ≡ g → table_has_doubt p v g' ≡ table_has_doubt p v g → have_doubt (slice_set groups place g') p v ≡ have_doubt groups p v
  put_tables groups place g g' l is same = any_set (table_has_doubt p v) groups place g g' l is same

-- ---- what a look finds

doubt_is : (o : Option KeyVersion) (d : Doubt) → IsOfVersion o (InDoubt d) → is_doubt d.stamp o ≡ true
doubt_is None d of = absurd of
doubt_is (Some v) d of = both (nat_eq v.stamp d.stamp) (not v.verified) (eq-eqb v.stamp d.stamp (sym of.1)) (ap not of.0)

found_table : (p : Point) (g : Group) (d : Doubt) (path : Path) (after : Option (List ℕ)) (fs : List FoundKey) (next : Option (List ℕ)) → IsReadAt g p → AreOfIndex g p path d.index after fs next → IsAmong (InDoubt d) fs → table_has_doubt p (version_of d) g ≡ true
found_table p g d path after fs next read of among = (let
    x = of.index
    in let
    doubt : is_doubt d.stamp (version_to x d.key (reach_of p)) ≡ true = doubt_is (version_to x d.key (reach_of p)) d (of.versions (InDoubt d) among)
    in let
    here : has_doubt p (version_of d) x ≡ true =
    both (nat_eq x.index.id.0 d.index.0) (nat_le x.index.birth (reach_of p) && is_doubt d.stamp (version_to x d.key (reach_of p))) (eq-eqb x.index.id.0 d.index.0 (ap (λ (i : IndexId). i.0) of.part.id)) (both (nat_le x.index.birth (reach_of p)) (is_doubt d.stamp (version_to x d.key (reach_of p))) (le_test x.index.birth (reach_of p) of.part.born) doubt)
    in both (nat_eq g.table.id.0 p.table.0) (nat_le g.horizon (reach_of p) && list_any (has_doubt p (version_of d)) g.indexes.items) (eq-eqb g.table.id.0 p.table.0 (ap (λ (i : TableId). i.0) (sym read.of.table)))
    (both (nat_le g.horizon (reach_of p)) (list_any (has_doubt p (version_of d)) g.indexes.items) (le_test g.horizon (reach_of p) read.above) (at_any (has_doubt p (version_of d)) g.indexes.items of.place x of.at here)))

pub found_doubts : (p : Point) (groups xs : List Group) (place : ℕ) (g d0 g' : Group) → xs ≡ groups → place < length xs → ((h : Group) → slice_get xs place ≡ Some h → IsReadAt h p) → g ≡ get_or groups place d0 → HasLooked g g'
    → (path : Path) (after : Option (List ℕ)) (found fs : List FoundKey) → fs ≡ found → (next : Option (List ℕ)) → AreDoubtsOf p.found path.by found → ((i : IndexId) → path.by ≡ ByIndex i → AreOfIndex g p path i after found next) → AreDoubtful (have_doubt (slice_set groups place g')) p fs
found_doubts p groups xs place g d0 g' same l read at looked path after found fs is next doubts versions d among = (let
    here : IsAmong (InDoubt d) found = subst (IsAmong (InDoubt d)) is among
    in let
    by_index : path.by ≡ ByIndex d.index = (doubts d here).0
    in let
    old : table_has_doubt p (version_of d) g ≡ true = found_table p g d path after found next (read_at p groups xs place g d0 same l read at) (versions d.index by_index) here
    in at_any (table_has_doubt p (version_of d)) (slice_set groups place g') place g' (got_set groups place g' (inside groups xs place same l)) (looked_table p (version_of d) g g' looked ∙ old))

-- ---- a doubt, in the tables

-- the table and the index that have it
record HasPlaces (groups : List Group) (p : Point) (v : IndexVersion) : Type 0 where
  place : ℕ
  group : Group
  at : slice_get groups place ≡ Some group
  above : group.horizon ≤ reach_of p
  part : ℕ
  index : IndexRegion
  of : slice_get group.indexes.items part ≡ Some index
  id : index.index.id.0 ≡ v.index.0
  born : index.index.birth ≤ reach_of p
  doubt : is_doubt v.stamp (version_to index v.key (reach_of p)) ≡ true

places_of : (groups : List Group) (p : Point) (v : IndexVersion) → have_doubt groups p v ≡ true → HasPlaces groups p v
places_of groups p v had = (let
    a = any_at (table_has_doubt p v) groups had
    in let
    g = a.1.0
    in let
    t : (nat_le g.horizon (reach_of p) && list_any (has_doubt p v) g.indexes.items) ≡ true = and_right (nat_eq g.table.id.0 p.table.0) (nat_le g.horizon (reach_of p) && list_any (has_doubt p v) g.indexes.items) a.1.1.1
    in let
    c = any_at (has_doubt p v) g.indexes.items (and_right (nat_le g.horizon (reach_of p)) (list_any (has_doubt p v) g.indexes.items) t)
    in let
    x = c.1.0
    in let
    h = c.1.1.1
    in let
    at_point : Bool = is_doubt v.stamp (version_to x v.key (reach_of p))
    in let
    later : Bool = nat_le x.index.birth (reach_of p) && at_point
    in let
    rest : (nat_le x.index.birth (reach_of p) && at_point) ≡ true = and_right (nat_eq x.index.id.0 v.index.0) later h
    in record {
      place = a.0;
      group = g;
      at = a.1.1.0;
      above = le_of g.horizon (reach_of p) (and_left (nat_le g.horizon (reach_of p)) (list_any (has_doubt p v) g.indexes.items) t);
      part = c.0;
      index = x;
      of = c.1.1.0;
      id = eq_of x.index.id.0 v.index.0 (and_left (nat_eq x.index.id.0 v.index.0) later h);
      born = le_of x.index.birth (reach_of p) (and_left (nat_le x.index.birth (reach_of p)) at_point rest);
      doubt = and_right (nat_le x.index.birth (reach_of p)) at_point rest;
    })

got_place : {A : Type 0} (xs : List A) (i : ℕ) (x : A) → slice_get xs i ≡ Some x → (i < length xs) × ((d : A) → get_or xs i d ≡ x)
got_place [] i x e = absurd (let z : None ≡ Some x = e in cc)
got_place (y ∷ xs) zero x e = (omega arith, λ d. some_same y x e)
got_place (y ∷ xs) (suc i) x e = (let r = got_place xs i x e in (omega (arith, r.0), r.1))

some_index : (a b : Index) → Some a ≡ Some b → a ≡ b
some_index a b e = cc

some_part : (a b : IndexRegion) → Some a ≡ Some b → a ≡ b
some_part a b e = cc

-- it stands unverified where it is seen
stands_at : (g : Group) (p : Point) (v : IndexVersion) (x : IndexRegion) → g.horizon ≤ reach_of p → x.index.birth ≤ reach_of p → is_doubt v.stamp (version_to x v.key (reach_of p)) ≡ true → stands_in g x v.key v.stamp ≡ true
stands_at g p v x above born doubt = (let
    h = at_key (value_at (read_of x.region)) v.key
    in let
    within : v.stamp ≤ reach_of p = doubt_within h x.index.included v.stamp (reach_of p) doubt
    in seen_below h x.index.included v.stamp (reach_of p) (max v.stamp (max x.index.birth g.horizon)) (omega arith) (omega (arith, within, above, born)) doubt)

-- the same of an index of which the same is read, in a table with the same horizon
seen_alike : (g g' : Group) (x y : IndexRegion) → g'.horizon ≡ g.horizon → y.index ≡ x.index → read_of y.region ≡ read_of x.region → (k : List ℕ) (s : ℕ) → stands_in g' y k s ≡ stands_in g x k s
seen_alike g g' x y horizon index cells k s = λ i. is_doubt s (version_at (at_key (value_at (cells i)) k) (index i).included (max s (max (index i).birth (horizon i))))

module _ {D : Type 0} (d : Ghosts D) (b : Base) (sound premise : Type 0) (began : Beginning) (disk : D) (catalog : Catalog) (standing : Standing) (groups : List Group) (trail : Recorded) (late : Option Entry) (closed : Option ℕ)
    (k : IsKept d b sound premise began disk catalog standing groups trail late closed) (running : closed ≡ None) (place : ℕ) (g g' : Group) (l : place < length groups) (is : get_or groups place g ≡ g) where
  abbrev es : List Entry
  es = trail.entries

  here_tallied : HasTallied b es g
  here_tallied = all_at (HasTallied b es) groups place g l is (k.each.tallied running)

  here_right : IsRightGroup g
  here_right = all_at IsRightGroup groups place g l is (k.each.right running)

  here_once : HasOnce g
  here_once = all_at HasOnce groups place g l is (k.each.once running)

  -- an index of a number is at one place
  module _ (at : ℕ) (q : Doubt) (there : at < length g.indexes.items) (named : (x : IndexRegion) → slice_get g.indexes.items at ≡ Some x → x.index.id ≡ q.index) (p : Point) (has : HasPlaces groups p (version_of q)) where
    other_in : (has.place < length groups) × ((e : Group) → get_or groups has.place e ≡ has.group)
    other_in = got_place groups has.place has.group has.at

    other_is : get_or groups has.place has.group ≡ has.group
    other_is = other_in.1 has.group

    mine : (x : IndexRegion) × (slice_get g.indexes.items at ≡ Some x)
    mine = there_is g.indexes.items at there

    same_number : has.index.index.id.0 ≡ mine.0.index.id.0
    same_number = has.id ∙ sym (ap (λ (i : IndexId). i.0) (named mine.0 mine.1))

    same_definition : has.index.index ≡ mine.0.index
    same_definition = (let
        other : HasTallied b es has.group = all_at (HasTallied b es) groups has.place has.group other_in.0 other_is (k.each.tallied running)
        in some_index has.index.index mine.0.index
        (sym (other.tallied.standing.index has.part has.index has.of) ∙ (ap (index_of b es) same_number ∙ here_tallied.tallied.standing.index at mine.0 mine.1)))

    same_table : number_in has.group ≡ number_in g
    same_table = (let
        other : IsRightGroup has.group = all_at IsRightGroup groups has.place has.group other_in.0 other_is (k.each.right running)
        in let
        theirs : has.index.index.table ≡ has.group.table.id = (part_at (IsRightPart has.group.table) has.group.indexes.items other.parts has.part has.index has.of).table
        in let
        ours : mine.0.index.table ≡ g.table.id = (part_at (IsRightPart g.table) g.indexes.items here_right.parts at mine.0 mine.1).table
        in ap (λ (t : TableId). t.0) (sym theirs ∙ (ap (λ (y : Index). y.table) same_definition ∙ ours)))

    same_place : has.place ≡ place
    same_place = one_place number_in groups has.place place g (distinct_groups groups standing (catalogue_of b es) k.told.agrees k.each.stand) other_in.0 l (ap number_in (other_in.1 g) ∙ (same_table ∙ ap number_in (sym is)))

    same_group : has.group ≡ g
    same_group = sym (other_in.1 g) ∙ (ap (λ (n : ℕ). get_or groups n g) same_place ∙ is)

    same_part : has.index ≡ mine.0
    same_part = (let
        of : slice_get g.indexes.items has.part ≡ Some has.index = ap (λ (h : Group). slice_get h.indexes.items has.part) (sym same_group) ∙ has.of
        in let
        one : has.part ≡ at = once_at g.indexes.items has.part at has.index mine.0 here_once of mine.1 same_number
        in some_part has.index mine.0 (sym of ∙ (ap (slice_get g.indexes.items) one ∙ mine.1)))

    -- so it stands there
    stands_here : stands_in g mine.0 q.key q.stamp ≡ true
    stands_here = stands_at g p (version_of q) mine.0 (subst (λ (h : Group). h.horizon ≤ reach_of p) same_group has.above) (subst (λ (x : IndexRegion). x.index.birth ≤ reach_of p) same_part has.born)
        (subst (λ (x : IndexRegion). is_doubt q.stamp (version_to x q.key (reach_of p)) ≡ true) same_part has.doubt)

    -- and is seen of its key
    seen_here : (x : IndexRegion) → slice_get g.indexes.items at ≡ Some x → version_seen g x q.key q.stamp ≢ None
    seen_here x of = λ none. (let
        same : mine.0 ≡ x = some_part mine.0 x (sym mine.1 ∙ of)
        in false≢true (sym (ap (is_doubt q.stamp) none) ∙ subst (λ (y : IndexRegion). stands_in g y q.key q.stamp ≡ true) same stands_here))

    -- also in the table as it was looked at
    not_gone : HasLooked g g' → IsJudged g' at q.key q.stamp judged.Gone → ⊥
    not_gone looked gone = (let
        y = looked_on g.indexes.items g'.indexes.items looked.indexes at mine.0 mine.1
        in let
        same : stands_in g' y.0 q.key q.stamp ≡ stands_in g mine.0 q.key q.stamp = seen_alike g g' mine.0 y.0 looked.horizon y.1.1.index y.1.1.region.alike.store q.key q.stamp
        in false≢true (sym (gone y.0 y.1.0) ∙ (same ∙ stands_here)))

  -- a version that is in doubt at a point is seen of its key
  pub doubt_seen : (at : ℕ) (q : Doubt) → at < length g.indexes.items → ((x : IndexRegion) → slice_get g.indexes.items at ≡ Some x → x.index.id ≡ q.index) → (p : Point) → have_doubt groups p (version_of q) ≡ true
      → (x : IndexRegion) → slice_get g.indexes.items at ≡ Some x → version_seen g x q.key q.stamp ≢ None
  doubt_seen at q there named p had = seen_here at q there named p (places_of groups p (version_of q) had)

  -- ---- what is answered of a repair

  pub answers_there : (disk' : D) (at : ℕ) (q : Doubt) → at < length g.indexes.items → ((x : IndexRegion) → slice_get g.indexes.items at ≡ Some x → x.index.id ≡ q.index) → (n : ℕ) (result : Result Fixing RepairFault) → AddsNoEntry result
      → Fixes d g g' disk disk' at q.key q.stamp result → (answer : Result Fixing StepFault) → Answers n result answer → IfOk answer (λ f. (p : Point) → have_doubt groups p (version_of q) ≡ true → f ≢ fixing.Gone)
  answers_there disk' at q there named n (Ok fixing.Fixed) never f answer told = absurd never
  answers_there disk' at q there named n (Ok fixing.Gone) here f answer told = subst (λ r. IfOk r (λ w. (p : Point) → have_doubt groups p (version_of q) ≡ true → w ≢ fixing.Gone)) (sym told)
      (λ p had same. not_gone at q there named p (places_of groups p (version_of q) had) f.0.looked f.1)
  answers_there disk' at q there named n (Ok fixing.InFlight) here f answer told = subst (λ r. IfOk r (λ w. (p : Point) → have_doubt groups p (version_of q) ≡ true → w ≢ fixing.Gone)) (sym told) (λ p had same. absurd (let z : ◌≡◌ {A = Fixing} fixing.InFlight fixing.Gone = same in cc))
  answers_there disk' at q there named n (Err (Busy cells bytes)) here f answer told = subst (λ r. IfOk r (λ w. (p : Point) → have_doubt groups p (version_of q) ≡ true → w ≢ fixing.Gone)) (sym told) tt
  answers_there disk' at q there named n (Err NotReady) here f answer told = subst (λ r. IfOk r (λ w. (p : Point) → have_doubt groups p (version_of q) ≡ true → w ≢ fixing.Gone)) (sym told) tt
  answers_there disk' at q there named n (Err WriteFault) never f answer told = absurd never
  answers_there disk' at q there named n (Err Memory) here f answer told = subst (λ r. IfOk r (λ w. (p : Point) → have_doubt groups p (version_of q) ≡ true → w ≢ fixing.Gone)) (sym told) tt
  answers_there disk' at q there named n (Err ReadFault) never f answer told = absurd never
  answers_there disk' at q there named n (Err (Damaged file damaged)) here f answer told = subst (λ r. IfOk r (λ w. (p : Point) → have_doubt groups p (version_of q) ≡ true → w ≢ fixing.Gone)) (sym told) tt

  -- where nothing was written, all of it stays
  pub stayed_doubts : (disk' : D) → HasOnlyLooked d g g' disk disk' → (p : Point) (v : IndexVersion) → have_doubt (slice_set groups place g') p v ≡ have_doubt groups p v
  stayed_doubts disk' h p v = put_tables p v groups place g g' l is (looked_table p v g g' h.looked)

  -- where a repair was written, at every other key, if what was opened is sound
  module _ (given : sound) (disk' : D) (at : ℕ) (key : List ℕ) (s : ℕ) (f : HasFixed d g g' disk disk' at key s) (p : Point) (v : IndexVersion) (apart : v.key ≢ key) where
    abbrev before : List Group
    before = slice_set groups place f.looked

    kept_before : IsKept d b sound premise began disk catalog standing before trail late closed
    kept_before = looked_kept d b sound premise began disk catalog standing groups trail late closed k place g f.looked l is f.has

    shown_before : AreShown b es standing.indexes before
    shown_before = kept_before.shown given running

    got_before : (place < length before) × ((e : Group) → get_or before place e ≡ f.looked)
    got_before = got_place before place f.looked (got_set groups place f.looked l)

    has_before : HasShown b es standing.indexes shown_before.told f.looked
    has_before = all_at (HasShown b es standing.indexes shown_before.told) before place f.looked got_before.0 (got_before.1 f.looked) shown_before.each

    repaired_index : has_doubt p v (record f.wrote.index { region = f.wrote.region }) ≡ has_doubt p v f.wrote.index
    repaired_index = (let
        x = f.wrote.index
        in let
        beside : HasSameStatus (at_key (value_at (read_of x.region)) v.key) (at_key (value_at (read_of f.wrote.region)) v.key) =
        repaired_beside f.looked at key s f.kept f.due b (forms_in standing.indexes f.looked.table) es (shown_before.told f.looked.table.id.0) has_before.held has_before.tallied has_before.shown has_before.told x f.wrote.step.index v.key apart
        f.wrote.wrote.hands.cells (read_of f.wrote.region) f.wrote.wrote.hands.handed.reads f.wrote.wrote.written.reads
        in ap (λ (t : Bool). nat_eq x.index.id.0 v.index.0 && (nat_le x.index.birth (reach_of p) && t)) (same_doubt v.stamp (reach_of p) x.index.included _ _ beside))

    pub fixed_others : have_doubt (slice_set groups place g') p v ≡ have_doubt groups p v
    fixed_others = put_tables p v groups place g g' l is
        (put_table p v f.looked g' at f.wrote.index (record f.wrote.index { region = f.wrote.region }) f.wrote.step.index f.wrote.step.indexes f.wrote.step.table f.wrote.step.horizon (λ above. repaired_index) ∙ looked_table p v g f.looked f.has)

-- ---- no doubt is of an index that no table has

lacks_index : (xs : List IndexRegion) (i : IndexId) → AllByRecursion (λ x. x.index.id ≢ i) xs → (j : ℕ) (x : IndexRegion) → slice_get xs j ≡ Some x → x.index.id.0 ≡ i.0 → ⊥
lacks_index xs i all j x at same = (let none = part_at (λ (z : IndexRegion). z.index.id ≢ i) xs all j x at in none (λ k. record { 0 = same k }))

pub none_there : (groups : List Group) (q : Doubt) → AllByRecursion (GroupLacksIndex q.index) groups → (p : Point) → have_doubt groups p (version_of q) ≡ true → ⊥
none_there groups q all p had = (let
    has = places_of groups p (version_of q) had
    in lacks_index has.group.indexes.items q.index (part_at (GroupLacksIndex q.index) groups all has.place has.group has.at) has.part has.index has.of has.id)

-- ---- refusals for want of room

pub still_told : (P : Type 0) → P → (answer : Result Fixing StepFault) → IfErr answer (λ f. IsForRoom f → P)
still_told P h (Ok f) = tt
still_told P h (Err f) = λ room. h

pub others_told : (P : Type 0) → P → (answer : Result Fixing StepFault) → IfOk answer (λ f. P)
others_told P h (Ok f) = h
others_told P h (Err f) = tt
