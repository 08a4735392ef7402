-- The open points of a group, and those of the trail.
use Rattle.std.proofs.Common.{ℕ, ◌≡◌, ◌+◌, ◌-◌, ◌==◌, ◌&&◌, if◌then◌else◌, Bool, true, false, List, [], ◌∷◌, ◌++◌, refl, sym, ◌∙◌, ap, subst}
use Rattle.std.proofs.lemmas.Bool.{eq-eqb}
use Rattle.px_tables.specs.declared.table.Table.{Table}
use Rattle.px_trail.specs.declared.entry.Act.{Act}
use Rattle.px_trail.specs.declared.entry.Act.TheVariants.{Opened, Released}
use Rattle.px_trail.specs.declared.entry.Entry.{Entry}
use Rattle.px_trail.specs.Trail.{Base, catalogue_of, catalogue_step, last_of, last_step, open_points, points_step}
use Rattle.px_trail.proofs.Growth.{catalogue-snoc, horizon-snoc, last-snoc, points-snoc}
use Rattle.px_indexed.specs.Idle.{IsElsewhere}
use Rattle.px_indexed.proofs.Idle.{IsIdle, act_idle}
use Rattle.px_openbatches.specs.Pending.{HeldBatch}
use Rattle.px_group.specs.declared.group.Group.{Group}
use Rattle.px_group.specs.Group.{AreStanding, IsTallied, points_in}
use Rattle.px_noting.specs.Points.{HasOpened, HasReleased, IsSameBesidePoints}
use Rattle.px_noting.proofs.Others.{held_still, phases_still}

-- the group with other points
pub same_group : (g g' : Group) → IsSameBesidePoints g g' → g' ≡ record g { points = g'.points }
same_group g g' same = λ i. record { table = same.table i; rows = same.rows i; indexes = same.indexes i; batches = same.batches i; points = g'.points; last = same.last i; horizon = same.horizon i }

-- what stands, where the catalogue stays
standing_still : (b : Base) (es es' : List Entry) (g g' : Group) → catalogue_of b es' ≡ catalogue_of b es → AreStanding b es g → AreStanding b es' (record g { points = g'.points })
standing_still b es es' g g' same k = record {
  table = ap (λ c. c.tables g.table.id.0) same ∙ k.table;
  index = λ i x is. ap (λ c. c.indexes x.index.id.0) same ∙ k.index i x is;
  all = λ y is of_table maintained. k.all y (ap (λ c. c.indexes y.id.0) (sym same) ∙ is) of_table maintained;
}

-- an entry of the table's own points: the points of the trail are those of the group after it
tallied_beside : (b : Base) (es : List Entry) (g : Group) (hs : List HeldBatch) → IsTallied b es g hs → (e : Entry) → IsElsewhere g.table.id e.act → catalogue_step (catalogue_of b es) e.act ≡ catalogue_of b es → last_step g.table.id.0 (last_of b g.table.id.0 es) e.act ≡ last_of b g.table.id.0 es
    → (g' : Group) → IsSameBesidePoints g g' → ((seat u : ℕ) → open_points seat g.table.id.0 u (es ++ e ∷ []) ≡ points_in seat u g'.points.items) → IsTallied b (es ++ e ∷ []) g' hs
tallied_beside b es g hs k e elsewhere catalogue last g' same points = (let
    idle : IsIdle g.table.id e = act_idle g.table.id e elsewhere
    in let
    told : IsTallied b (es ++ e ∷ []) (record g { points = g'.points }) hs = record {
      standing = standing_still b es (es ++ e ∷ []) g g' (catalogue-snoc b es e ∙ catalogue) k.standing;
      last = last-snoc b g.table.id.0 es e ∙ (last ∙ k.last);
      horizon = horizon-snoc b g.table.id.0 es e ∙ (idle.horizon _ ∙ k.horizon);
      held = held_still b es g.table.id e idle.still hs k.held;
      batches = k.batches;
      phases = phases_still b es g.table.id e idle.still g.batches.items hs k.phases;
      points = points;
    }
    in subst (λ (h : Group). IsTallied b (es ++ e ∷ []) h hs) (sym (same_group g g' same)) told)

and_own : (u v w : Bool) → v ≡ true → (u && (v && w)) ≡ (u && w)
and_own u true w h = refl
and_own u false w h = (let z : false ≡ true = h in cc)

-- the points alone, also where nothing else is known of the group
module _ (es : List Entry) (g : Group) (same : (seat u : ℕ) → open_points seat g.table.id.0 u es ≡ points_in seat u g.points.items) (e : Entry) (s : ℕ) where
  abbrev t : ℕ
  t = g.table.id.0

  opened_here : (scn : Bool) → e.act ≡ Opened g.table.id s scn → (g' : Group) → HasOpened g g' e.seat s → (seat u : ℕ) → open_points seat t u (es ++ e ∷ []) ≡ points_in seat u g'.points.items
  unfolding points_step
  opened_here scn is g' new seat u =
      points-snoc seat t u es e ∙ (ap (points_step seat t u (open_points seat t u es) e.seat) is ∙ (ap (λ v. if v then open_points seat t u es + 1 else open_points seat t u es) (and_own (e.seat == seat) (t == t) (s == u) (eq-eqb t t refl))
      ∙ (ap (λ n. if (e.seat == seat) && (s == u) then n + 1 else n) (same seat u) ∙ sym (new.points seat u))))

  released_here : e.act ≡ Released g.table.id s → (g' : Group) → HasReleased g g' e.seat s → (seat u : ℕ) → open_points seat t u (es ++ e ∷ []) ≡ points_in seat u g'.points.items
  unfolding points_step
  released_here is g' new seat u =
      points-snoc seat t u es e ∙ (ap (points_step seat t u (open_points seat t u es) e.seat) is ∙ (ap (λ v. if v then open_points seat t u es - 1 else open_points seat t u es) (and_own (e.seat == seat) (t == t) (s == u) (eq-eqb t t refl))
      ∙ (ap (λ n. if (e.seat == seat) && (s == u) then n - 1 else n) (same seat u) ∙ sym (new.points seat u))))

  pub points_opened : (scn : Bool) → e.act ≡ Opened g.table.id s scn → (g' : Group) → HasOpened g g' e.seat s → (seat u : ℕ) → open_points seat g'.table.id.0 u (es ++ e ∷ []) ≡ points_in seat u g'.points.items
  points_opened scn is g' new seat u = ap (λ (x : Table). open_points seat x.id.0 u (es ++ e ∷ [])) new.same.table ∙ opened_here scn is g' new seat u

  pub points_released : e.act ≡ Released g.table.id s → (g' : Group) → HasReleased g g' e.seat s → (seat u : ℕ) → open_points seat g'.table.id.0 u (es ++ e ∷ []) ≡ points_in seat u g'.points.items
  points_released is g' new seat u = ap (λ (x : Table). open_points seat x.id.0 u (es ++ e ∷ [])) new.same.table ∙ released_here is g' new seat u

module _ (b : Base) (es : List Entry) (g : Group) (hs : List HeldBatch) (k : IsTallied b es g hs) (e : Entry) (s : ℕ) where
  pub tallied_opened : (scn : Bool) → e.act ≡ Opened g.table.id s scn → (g' : Group) → HasOpened g g' e.seat s → IsTallied b (es ++ e ∷ []) g' hs
  unfolding catalogue_step
  tallied_opened scn is g' new = tallied_beside b es g hs k e (subst (λ (a : Act). IsElsewhere g.table.id a) (sym is) tt) (ap (catalogue_step (catalogue_of b es)) is) (ap (last_step g.table.id.0 (last_of b g.table.id.0 es)) is) g' new.same
      (opened_here es g k.points e s scn is g' new)

  pub tallied_released : e.act ≡ Released g.table.id s → (g' : Group) → HasReleased g g' e.seat s → IsTallied b (es ++ e ∷ []) g' hs
  unfolding catalogue_step
  tallied_released is g' new = tallied_beside b es g hs k e (subst (λ (a : Act). IsElsewhere g.table.id a) (sym is) tt) (ap (catalogue_step (catalogue_of b es)) is) (ap (last_step g.table.id.0 (last_of b g.table.id.0 es)) is) g' new.same
      (released_here es g k.points e s is g' new)
