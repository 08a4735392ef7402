-- A point is closed.
use Rattle.std.proofs.Common.{◌≡◌, ◌<◌, ◌≤◌, ◌+◌, ℕ, zero, suc, Option, Some, None, List, [], ◌∷◌, ◌++◌, length, get_or, map, refl, sym, ap, ◌∙◌, arith}
use Rattle.std.specs.Prelude.{IsTrue, sum_by}
use Rattle.std.specs.List.{slice_set}
use Rattle.std.proofs.lemmas.Bool.{false≢true}
use Rattle.std.proofs.lemmas.List.{length-map}
use Rattle.px_outside.specs.declared.disk.Disk.{Ghosts}
use Rattle.px_values.specs.declared.name.TableId.{TableId}
use Rattle.px_tables.specs.declared.table.Table.{Table}
use Rattle.px_trail.specs.declared.entry.Act.TheVariants.{Released}
use Rattle.px_trail.specs.declared.entry.Entry.{Entry}
use Rattle.px_trail.specs.Legal.{Follows, MayCome}
use Rattle.px_trail.specs.Recorded.{Recorded}
use Rattle.px_trail.specs.Trail.{Base, Catalogue, catalogue_step, closing_step, open_points}
use Rattle.px_schema.specs.declared.standing.Standing.{Standing}
use Rattle.px_catalog.specs.declared.catalog.Catalog.{Catalog}
use Rattle.px_group.specs.Group.{points_in}
use Rattle.px_group.specs.declared.group.Group.{Group}
use Rattle.px_noting.specs.Points.{HasReleased}
use Rattle.px_noting.proofs.OpenPoints.{points_released, tallied_released}
use Rattle.px_recovery.proofs.Server.{newest_early}
use Rattle.px_server.specs.Kept.{HasPoints, IsKept, owed_by, table_in_group}
use Rattle.px_server.specs.Others.{Beginning}
use Rattle.px_server.proofs.Blamed.{blamed_quiet}
use Rattle.px_server.proofs.Lists.{all_at}
use Rattle.px_server.proofs.PointMoved.{pointed}

pub none_of : (o : Option ℕ) → ((x : ℕ) → o ≡ Some x → ⊥) → o ≡ None
none_of None not = refl
none_of (Some x) not = absurd (not x refl)

unshut_by : (o : Option ℕ) (t : TableId) (s : ℕ) → closing_step o (Released t s) ≡ o
unshut_by None t s = refl
unshut_by (Some c) t s = refl

still_by : (t : TableId) (s : ℕ) (c : Catalogue) → catalogue_step c (Released t s) ≡ c
unfolding catalogue_step
still_by t s c = refl

-- ---- the group at a place

pub place_in : (groups : List Group) (tables : List Table) → map table_in_group groups ≡ tables → (place : ℕ) → place < length tables → place < length groups
place_in groups tables is place l = (let n = length-map groups table_in_group in let m : length (map table_in_group groups) ≡ length tables = ap length is in omega (arith, n, m, l))

map_at : (groups : List Group) (place : ℕ) (g : Group) (d : Table) → place < length groups → get_or groups place g ≡ g → get_or (map table_in_group groups) place d ≡ g.table
map_at [] place g d l is = absurd (omega (arith, l))
map_at (y ∷ ys) zero g d l is = ap table_in_group is
map_at (y ∷ ys) (suc place) g d l is = map_at ys place g d (omega (arith, l)) is

-- it is of the table there
pub group_of : (groups : List Group) (tables : List Table) → map table_in_group groups ≡ tables → (place : ℕ) (g : Group) → place < length groups → get_or groups place g ≡ g → (t : TableId) → ((none : Table) → (get_or tables place none).id ≡ t) → g.table.id ≡ t
group_of groups tables is place g l at t number = ap (λ (x : Table). x.id) (sym (sym (ap (λ ts. get_or ts place g.table) is) ∙ map_at groups place g g.table l at)) ∙ number g.table

-- ---- the server

module _ {D : Type 0} (d : Ghosts D) (tells_left : (x : D) (moment file : ℕ) (bytes : List ℕ) → d.left x moment file bytes → IsTrue d.tells)
    (up_to_now : (x : D) (moment file : ℕ) (bytes : List ℕ) → d.left x moment file bytes → moment ≤ d.calls x) (b : Base) (sound premise : Type 0) (began : Beginning)
    (disk : D) (catalog : Catalog) (standing : Standing) (groups : List Group) (trail : Recorded) (late : Option Entry) (closed : Option ℕ) (k : IsKept d b sound premise began disk catalog standing groups trail late closed)
    (seat calls s : ℕ) (t : TableId) (at : calls ≡ d.calls disk) (open_ : 0 < open_points seat t.0 s trail.entries) (place : ℕ) (g : Group) (l : place < length standing.tables) (number : (none : Table) → (get_or standing.tables place none).id ≡ t) (is : get_or groups place g ≡ g) where
  abbrev es : List Entry
  es = trail.entries

  abbrev e : Entry
  e = record { seat = seat; calls = calls; act = Released t s }

  inside : place < length groups
  inside = place_in groups standing.tables k.each.stand place l

  own : g.table.id ≡ t
  own = group_of groups standing.tables k.each.stand place g inside is t number

  here : HasPoints es g
  here = all_at (HasPoints es) groups place g inside is k.each.points

  -- the group has the point
  pub has_point : 0 < points_in seat s g.points.items
  has_point = (let same : open_points seat t.0 s es ≡ points_in seat s g.points.items = ap (λ (x : TableId). open_points seat x.0 s es) (sym own) ∙ here seat s in omega (arith, same, open_))

  may : MayCome b es e
  unfolding Follows
  may = record {
    follows = open_;
    shut = λ not. absurd (false≢true (sym not));
    calls = (let n = newest_early (d.calls disk) 0 es (omega arith) k.server.early in omega (arith, n, at));
  }

  act_is : e.act ≡ Released g.table.id s
  act_is = ap (λ (x : TableId). Released x s) (sym own)

  pub closes : (g' : Group) → HasReleased g g' seat s → length g'.points.items + 1 ≡ length g.points.items → (trail' : Recorded) → trail'.entries ≡ es ++ e ∷ [] → trail'.room + 1 ≡ trail.room → IsKept d b sound premise began disk catalog standing (slice_set groups place g') trail' late closed
  closes g' released fewer trail' entries room =
      pointed d tells_left up_to_now b sound premise began disk catalog standing groups trail late closed k e at refl (blamed_quiet d disk trail.entries e refl k.blamed) may (unshut_by closed t s) (still_by t s) (λ x. tt) place g g' inside is released.same
      (λ x other same. other (sym same ∙ ap (λ (y : TableId). y.0) (sym own))) (λ n. tt) tt
      (points_released es g here e s act_is g' released) (λ hs tallied. tallied_released b es g hs tallied e s act_is g' released) trail' entries
      (let
      batches : sum_by owed_by g'.batches.items ≡ sum_by owed_by g.batches.items = ap (λ xs. sum_by owed_by xs.items) released.same.batches
      in omega (arith, batches, fewer, room))
