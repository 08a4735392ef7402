-- A failed call of a write closes the server: what is true of it then, whatever became of its regions and its catalogue.
use Rattle.std.proofs.Common.{◌≡◌, ◌≤◌, ℕ, Option, Some, None, List, [], ◌∷◌, ◌++◌, map, refl, sym, ap, subst, ◌∙◌, arith}
use Rattle.std.specs.Prelude.{IsTrue}
use Rattle.std.specs.List.{AllByRecursion}
use Rattle.px_outside.specs.declared.disk.Disk.{Ghosts}
use Rattle.px_trail.specs.declared.entry.Act.{Act}
use Rattle.px_trail.specs.declared.entry.Act.TheVariants.{Shut}
use Rattle.px_trail.specs.declared.entry.Entry.{Entry}
use Rattle.px_trail.specs.Legal.{Follows, MayCome}
use Rattle.px_trail.specs.Recorded.{Recorded}
use Rattle.px_trail.specs.Trail.{Base, Catalogue, catalogue_of, catalogue_step, closing_step, open_points}
use Rattle.px_trail.proofs.Growth.{catalogue-snoc, closing-snoc, legal-snoc, points-snoc}
use Rattle.px_indexed.specs.Idle.{IsElsewhere}
use Rattle.px_batching.proofs.Traced.{traced_idle, traced_of}
use Rattle.px_schema.specs.declared.standing.Standing.{Standing}
use Rattle.px_catalog.specs.declared.catalog.Catalog.{Catalog}
use Rattle.px_group.specs.Group.{AreTraced, IsRightGroup}
use Rattle.px_group.specs.declared.group.Group.{Group}
use Rattle.px_noting.specs.Apart.{IsApartFrom}
use Rattle.px_noting.proofs.Others.{apart_points}
use Rattle.px_recovery.specs.Kept.{IsServer}
use Rattle.px_recovery.proofs.Server.{newest_early}
use Rattle.px_standing.specs.Agrees.{Agrees}
use Rattle.px_server.specs.Kept.{AreGroups, HasBegun, HasFailed, HasPoints, HasServerParts, HasTallied, HasTrailRoom, IsKept, IsShutAt, IsTold, table_in_group}
use Rattle.px_server.specs.Others.{Beginning, OthersStay}
use Rattle.px_server.proofs.Lists.{all_weaker}
use Rattle.px_server.proofs.OpenBatches.{all_begun, begun_elsewhere}
use Rattle.px_server.proofs.Others.{others_more}

-- of groups that are right, each batch has what its end needs
pub all_traced : (b : Base) (es : List Entry) (gs : List Group) → AllByRecursion IsRightGroup gs → AllByRecursion (HasTallied b es) gs → AllByRecursion (AreTraced es) gs
all_traced b es [] right tallied = tt
all_traced b es (g ∷ gs) right tallied = (traced_of b es g tallied.0.held right.0 tallied.0.tallied, all_traced b es gs right.1 tallied.1)

pub call_is : (c call : ℕ) → Some call ≡ Some c → c ≡ call
call_is c call e = cc

pub none_some : (call : ℕ) → None ≡ Some call → ⊥
none_some call e = (let z : ◌≡◌ {A = Option ℕ} None (Some call) = e in cc)

shut_still : (c : Catalogue) (call : ℕ) → catalogue_step c (Shut call) ≡ c
unfolding catalogue_step
shut_still c call = refl

module _ {D : Type 0} (d : Ghosts D) (b : Base) (sound premise : Type 0) (began : Beginning) (disk : D) (catalog : Catalog) (standing : Standing) (groups : List Group) (trail : Recorded) (late : Option Entry) (closed : Option ℕ)
    (k : IsKept d b sound premise began disk catalog standing groups trail late closed) (running : closed ≡ None) (disk' : D) (later : d.calls disk ≤ d.calls disk') (shut : Entry) (call : ℕ) (shut_is : IsShutAt shut call) (called : call ≡ d.calls disk') where
  abbrev es : List Entry
  es = trail.entries

  abbrev es' : List Entry
  es' = es ++ shut ∷ []

  shut-is : shut.act ≡ Shut call
  shut-is = ap (λ (e : Entry). e.act) shut_is

  at : shut.calls ≡ d.calls disk'
  at = ap (λ (e : Entry). e.calls) shut_is ∙ called

  pub shut_may : MayCome b es shut
  unfolding Follows
  shut_may = record {
    follows = subst (λ (a : Act). Follows b es shut.seat shut.calls a) (sym shut-is) tt;
    shut = λ past. k.told.closing ∙ running;
    calls = (let n = newest_early (d.calls disk) 0 es (omega arith) k.server.early in omega (arith, n, at, later));
  }

  told : (stored : Standing) → IsTold b es' (Some call) stored standing
  told stored = record {
    base = k.told.base;
    low = k.told.low;
    legal = legal-snoc b es shut k.told.legal shut_may;
    closing = closing-snoc es shut ∙ (ap (λ (o : Option ℕ). closing_step o shut.act) (k.told.closing ∙ running) ∙ ap (closing_step None) shut-is);
    agrees = subst (λ (c : Catalogue). Agrees standing c) (sym (catalogue-snoc b es shut ∙ (ap (catalogue_step (catalogue_of b es)) shut-is ∙ shut_still (catalogue_of b es) call))) k.told.agrees;
    same = λ none. absurd cc;
  }

  points_on : (g : Group) → HasPoints es g → HasPoints es' g
  points_on g same seat s =
      points-snoc seat g.table.id.0 s es shut ∙ (apart_points g.table.id seat s (open_points seat g.table.id.0 s es) shut.seat shut.act (subst (IsApartFrom g.table.id) (sym shut-is) tt) ∙ same seat s)

  traced_on : (g : Group) → AreTraced es g → AreTraced es' g
  traced_on g t = traced_idle es shut g (subst (IsElsewhere g.table.id) (sym shut-is) tt) t

  begun_on : (g : Group) → HasBegun es g → HasBegun es' g
  begun_on g k' = begun_elsewhere es g shut (subst (IsElsewhere g.table.id) (sym shut-is) tt) k'

  -- the groups may be others by then: they have the same points, and the batches that may end, with what their end needs
  module _ (groups' : List Group) (stand : map table_in_group groups' ≡ standing.tables) (points : AllByRecursion (HasPoints es) groups') (traced : AllByRecursion (AreTraced es) groups') (begun : AllByRecursion (HasBegun es) groups') where
    each : AreGroups b es' (Some call) standing.tables groups'
    each = record {
      stand = stand;
      points = all_weaker (HasPoints es) (HasPoints es') points_on groups' points;
      right = λ none. absurd cc;
      tallied = λ none. absurd cc;
      once = λ none. absurd cc;
      traced = λ c is. all_weaker (AreTraced es) (AreTraced es') traced_on groups' traced;
      begun = λ c is. all_weaker (HasBegun es) (HasBegun es') begun_on groups' begun;
    }

    pub stopped : (catalog' : Catalog) (late' : Option Entry) → IsServer d b premise (HasServerParts d b sound catalog' groups') disk' (es ++ shut ∷ []) late' (Some call) → HasFailed d disk' → (premise → IsTrue d.tells → OthersStay d b began disk' es)
        → (trail' : Recorded) → trail'.entries ≡ es ++ shut ∷ [] → HasTrailRoom (Some call) groups' trail' → IsKept d b sound premise began disk' catalog' standing groups' trail' late' (Some call)
    stopped catalog' late' server failed others trail' entries room = record {
      told = subst (λ (ys : List Entry). IsTold b ys (Some call) (catalog'.standing) standing) (sym entries) (told catalog'.standing);
      each = subst (λ (ys : List Entry). AreGroups b ys (Some call) standing.tables groups') (sym entries) each;
      shown = λ given none. absurd cc;
      server = subst (λ (ys : List Entry). IsServer d b premise (HasServerParts d b sound catalog' groups') disk' ys late' (Some call)) (sym entries) server;
      room = room;
      blamed = λ is. failed;
      last_call = λ c same. call_is c call same ∙ called;
      others = λ given tells. subst (λ (ys : List Entry). OthersStay d b began disk' ys) (sym entries) (others_more d b began es (shut ∷ []) disk' (others given tells));
    }

  -- and where no group has changed
  pub stopped_same : (catalog' : Catalog) (late' : Option Entry) → IsServer d b premise (HasServerParts d b sound catalog' groups) disk' (es ++ shut ∷ []) late' (Some call) → HasFailed d disk' → (premise → IsTrue d.tells → OthersStay d b began disk' es)
      → (trail' : Recorded) → trail'.entries ≡ es ++ shut ∷ [] → HasTrailRoom (Some call) groups trail' → IsKept d b sound premise began disk' catalog' standing groups trail' late' (Some call)
  stopped_same = stopped groups k.each.stand k.each.points (all_traced b es groups (k.each.right running) (k.each.tallied running)) (all_begun b es groups (k.each.tallied running))
