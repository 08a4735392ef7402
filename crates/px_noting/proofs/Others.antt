-- An entry of another table, and of what the trail tells of points.
use Rattle.std.proofs.Common.{ℕ, ◌≡◌, ◌==◌, ◌&&◌, if◌then◌else◌, Bool, true, false, List, [], ◌∷◌, ◌++◌, refl, sym, ◌∙◌}
use Rattle.std.specs.List.{AllByRecursion}
use Rattle.std.proofs.lemmas.Bool.{ne_eqb}
use Rattle.px_values.specs.declared.name.TableId.{TableId}
use Rattle.px_trail.specs.declared.entry.Act.{Act}
use Rattle.px_trail.specs.declared.entry.Act.TheVariants.{Made, IndexMade, IndexState, Dropped, Begun, Phase, Wrote, Ended, Opened, Released, Raised, Fixed, Based, Missed, Shut}
use Rattle.px_trail.specs.declared.entry.Entry.{Entry}
use Rattle.px_trail.specs.Batches.{batch_of}
use Rattle.px_trail.specs.Trail.{Base, last_step, points_step}
use Rattle.px_trail.proofs.Growth.{batch_of-snoc, horizon-snoc, last-snoc, points-snoc}
use Rattle.px_indexed.specs.Idle.{IsElsewhere}
use Rattle.px_indexed.proofs.Idle.{IsIdle, IsStill, act_idle}
use Rattle.px_openbatches.specs.Pending.{HeldBatch, HeldKept, IsHeldBatch}
use Rattle.px_openbatches.proofs.Helds.{all_more, held_on}
use Rattle.px_group.specs.declared.group.Begun.{Begun as OpenBatch}
use Rattle.px_group.specs.declared.group.Group.{Group}
use Rattle.px_group.specs.Group.{AreInPhase, AreStanding, IsTallied, IsTraced}
use Rattle.px_noting.specs.Apart.{IsApartFrom}

-- what is of another table is elsewhere
pub apart_elsewhere : (tid : TableId) (act : Act) → IsApartFrom tid act → IsElsewhere tid act
apart_elsewhere tid (Made t what) n = n
apart_elsewhere tid (IndexMade t i s what) n = tt
apart_elsewhere tid (IndexState t i state s) n = tt
apart_elsewhere tid (Dropped t i) n = tt
apart_elsewhere tid (Begun t s cs) n = n
apart_elsewhere tid (Phase t s p) n = n
apart_elsewhere tid (Wrote t s rows) n = n
apart_elsewhere tid (Ended t s) n = n
apart_elsewhere tid (Opened t s scn) n = tt
apart_elsewhere tid (Released t s) n = tt
apart_elsewhere tid (Raised t h) n = n
apart_elsewhere tid (Fixed i k) n = tt
apart_elsewhere tid (Based i rows) n = tt
apart_elsewhere tid (Missed call) n = tt
apart_elsewhere tid (Shut call) n = tt

if_not : {A : Type 0} (v : Bool) (a c : A) → v ≡ false → (if v then a else c) ≡ c
if_not true a c h = (let z : true ≡ false = h in cc)
if_not false a c h = refl

and_no : (v c : Bool) → v ≡ false → (v && c) ≡ false
and_no true c h = (let z : true ≡ false = h in cc)
and_no false c h = refl

and_none : (u v c : Bool) → v ≡ false → (u && (v && c)) ≡ false
and_none true v c h = and_no v c h
and_none false v c h = refl

-- it draws no stamp of this one
pub apart_last : (tid : TableId) (l : ℕ) (act : Act) → IsApartFrom tid act → last_step tid.0 l act ≡ l
apart_last tid l (Begun t s cs) n = if_not _ _ _ (ne_eqb t.0 tid.0 n)
apart_last tid l (IndexMade t i s what) n = if_not _ _ _ (ne_eqb t.0 tid.0 n)
apart_last tid l (IndexState t i state s) n = if_not _ _ _ (and_no _ _ (ne_eqb t.0 tid.0 n))
apart_last tid l (Made t what) n = refl
apart_last tid l (Dropped t i) n = refl
apart_last tid l (Phase t s p) n = refl
apart_last tid l (Wrote t s rows) n = refl
apart_last tid l (Ended t s) n = refl
apart_last tid l (Opened t s scn) n = refl
apart_last tid l (Released t s) n = refl
apart_last tid l (Raised t h) n = refl
apart_last tid l (Fixed i k) n = refl
apart_last tid l (Based i rows) n = refl
apart_last tid l (Missed call) n = refl
apart_last tid l (Shut call) n = refl

-- and opens and closes no point
pub apart_points : (tid : TableId) (k s n seat : ℕ) (act : Act) → IsApartFrom tid act → points_step k tid.0 s n seat act ≡ n
unfolding points_step
apart_points tid k s n seat (Opened t u scn) p = if_not _ _ _ (and_none (seat == k) _ _ (ne_eqb t.0 tid.0 p))
apart_points tid k s n seat (Released t u) p = if_not _ _ _ (and_none (seat == k) _ _ (ne_eqb t.0 tid.0 p))
apart_points tid k s n seat (Made t what) p = refl
apart_points tid k s n seat (IndexMade t i u what) p = refl
apart_points tid k s n seat (IndexState t i state u) p = refl
apart_points tid k s n seat (Dropped t i) p = refl
apart_points tid k s n seat (Begun t u cs) p = refl
apart_points tid k s n seat (Phase t u q) p = refl
apart_points tid k s n seat (Wrote t u rows) p = refl
apart_points tid k s n seat (Ended t u) p = refl
apart_points tid k s n seat (Raised t h) p = refl
apart_points tid k s n seat (Fixed i q) p = refl
apart_points tid k s n seat (Based i rows) p = refl
apart_points tid k s n seat (Missed call) p = refl
apart_points tid k s n seat (Shut call) p = refl

-- the open batches stay those of the trail
module _ (b : Base) (es : List Entry) (tid : TableId) (e : Entry) (idle : IsStill tid e) where
  abbrev t : ℕ
  t = tid.0

  still_batch : (u : ℕ) → batch_of t u (es ++ e ∷ []) ≡ batch_of t u es
  still_batch u = batch_of-snoc t u es e ∙ idle.batches u (batch_of t u es)

  pub held_still : (hs : List HeldBatch) → HeldKept b es t hs → HeldKept b (es ++ e ∷ []) t hs
  held_still hs held = record {
    rising = held.rising;
    each = all_more (IsHeldBatch es t) (IsHeldBatch (es ++ e ∷ []) t) (λ h q. held_on es t h q e (λ u r p. record { batch = p.batch; is = sym (still_batch u) ∙ p.is; what = p.what; left = p.left }) h.written (λ l. l) q.batch (still_batch h.stamp ∙ q.is) q.changes q.written q.running) hs held.each;
    all = λ u y q n. held.all u y (sym (still_batch u) ∙ q) n;
  }

  held_one : (h : HeldBatch) → IsHeldBatch es t h → IsHeldBatch (es ++ e ∷ []) t h
  held_one h q = held_on es t h q e (λ u r p. record { batch = p.batch; is = sym (still_batch u) ∙ p.is; what = p.what; left = p.left }) h.written (λ l. l) q.batch (still_batch h.stamp ∙ q.is) q.changes q.written q.running

  -- and what their end needs of them
  pub traced_still : (ms : List OpenBatch) → AllByRecursion (IsTraced es t) ms → AllByRecursion (IsTraced (es ++ e ∷ []) t) ms
  traced_still [] all = tt
  traced_still (m ∷ ms) all = (
    record {
      held = all.0.held;
      is = held_one all.0.held all.0.is;
      stamp = all.0.stamp;
      changes = all.0.changes;
      distinct = all.0.distinct;
      flags = all.0.flags;
      met = all.0.met;
      receipt = all.0.receipt;
      few = all.0.few;
    },
    traced_still ms all.1,
  )

  pub phases_still : (ms : List OpenBatch) (hs : List HeldBatch) → AreInPhase es t ms hs → AreInPhase (es ++ e ∷ []) t ms hs
  phases_still [] hs p = tt
  phases_still (m ∷ ms) [] p = tt
  phases_still (m ∷ ms) (h ∷ hs) p = (record { batch = p.0.batch; is = still_batch h.stamp ∙ p.0.is; phase = p.0.phase; count = p.0.count }, phases_still ms hs p.1)

-- where the entry is no event of the group, and opens and closes none of its points
pub tallied_apart : (b : Base) (es : List Entry) (g : Group) (hs : List HeldBatch) → IsTallied b es g hs → (e : Entry) → IsApartFrom g.table.id e.act → AreStanding b (es ++ e ∷ []) g → IsTallied b (es ++ e ∷ []) g hs
tallied_apart b es g hs k e apart standing = (let
    idle : IsIdle g.table.id e = act_idle g.table.id e (apart_elsewhere g.table.id e.act apart)
    in record {
      standing = standing;
      last = last-snoc b g.table.id.0 es e ∙ (apart_last g.table.id _ e.act apart ∙ k.last);
      horizon = horizon-snoc b g.table.id.0 es e ∙ (idle.horizon _ ∙ k.horizon);
      held = held_still b es g.table.id e idle.still hs k.held;
      batches = k.batches;
      phases = phases_still b es g.table.id e idle.still g.batches.items hs k.phases;
      points = λ seat s. points-snoc seat g.table.id.0 s es e ∙ (apart_points g.table.id seat s _ e.seat e.act apart ∙ k.points seat s);
    })

-- and what the end of its batches needs, also where nothing else is known of the group
pub traced_elsewhere : (b : Base) (es : List Entry) (tid : TableId) (e : Entry) → IsElsewhere tid e.act → (ms : List OpenBatch) → AllByRecursion (IsTraced es tid.0) ms → AllByRecursion (IsTraced (es ++ e ∷ []) tid.0) ms
traced_elsewhere b es tid e n = traced_still b es tid e (act_idle tid e n).still
