-- The trail may tell of a horizon that is allowed.
use Rattle.std.proofs.Common.{◌≡◌, ℕ, ◌+◌, ◌<◌, ◌≤◌, ◌==◌, ◌&&◌, ◌||◌, Bool, true, false, List, [], ◌∷◌, map, sym, ap, subst, ◌∙◌, refl, arith}
use Rattle.std.specs.Prelude.{IsSome, Option, Some}
use Rattle.std.proofs.lemmas.List.Sums.{sum_by-cons}
use Rattle.px_tables.specs.declared.table.Table.{Table}
use Rattle.px_trail.specs.declared.entry.Entry.{Entry}
use Rattle.px_trail.specs.Legal.{MayRaise}
use Rattle.px_trail.specs.Trail.{Base}
use Rattle.px_openbatches.specs.Pending.{HeldBatch, is_in}
use Rattle.px_phases.specs.Batch.{AreHeldAs}
use Rattle.px_group.specs.Group.{IsTallied, batch_in, one_if, points_in}
use Rattle.px_group.specs.declared.group.Begun.{Begun}
use Rattle.px_group.specs.declared.group.Group.{Group}
use Rattle.px_group.specs.declared.group.OpenPoint.{OpenPoint}
use Rattle.px_turns.specs.Turns.{IsAllowedHorizon}
use Rattle.px_raising.specs.Turning.{has_batch, points_at, turning_of_group}

-- the batches of the table are those that the trail has open
has_held : (s : ℕ) (ms : List Begun) (hs : List HeldBatch) → AreHeldAs (map batch_in ms) hs → has_batch ms s ≡ is_in s hs
has_held s [] [] alike = refl
has_held s [] (h ∷ hs) alike = absurd alike
has_held s (m ∷ ms) [] alike = absurd alike
has_held s (m ∷ ms) (h ∷ hs) alike = ap (λ v. (v == s) || has_batch ms s) (sym alike.0.stamp) ∙ ap (λ v. (h.stamp == s) || v) (has_held s ms hs alike.1)

-- of one seat no more points are open than of all
one_more : (u v : Bool) (n m : ℕ) → n ≤ m → one_if (u && v) + n ≤ one_if v + m
one_more true true n m l = omega (arith, l)
one_more true false n m l = omega (arith, l)
one_more false true n m l = omega (arith, l)
one_more false false n m l = omega (arith, l)

seat_below : (seat s : ℕ) (ps : List OpenPoint) → points_in seat s ps ≤ points_at ps s
seat_below seat s [] = omega arith
seat_below seat s (p ∷ ps) =
    let a : points_in seat s (p ∷ ps) ≡ one_if ((p.seat == seat) && (p.stamp == s)) + points_in seat s ps = sum_by-cons (λ (q : OpenPoint). one_if ((q.seat == seat) && (q.stamp == s))) p ps in
    let b : points_at (p ∷ ps) s ≡ one_if (p.stamp == s) + points_at ps s = sum_by-cons (λ (q : OpenPoint). one_if (q.stamp == s)) p ps in
    let k = one_more (p.seat == seat) (p.stamp == s) (points_in seat s ps) (points_at ps s) (seat_below seat s ps) in
    omega (arith, a, b, k)

some_is : (o : Option Table) (x : Table) → o ≡ Some x → IsSome o
some_is o x is = subst (λ (p : Option Table). IsSome p) (sym is) refl

pub may_raise : (b : Base) (es : List Entry) (g : Group) (hs : List HeldBatch) → IsTallied b es g hs → (lookback h : ℕ) → g.horizon < h → IsAllowedHorizon (turning_of_group g) lookback h → MayRaise b es g.table.id.0 h
may_raise b es g hs k lookback h above allowed = record {
  stands = some_is _ g.table k.standing.table;
  rises = (let e = k.horizon in omega (arith, e, above));
  last = (let e = k.last in let l = allowed.back in omega (arith, e, l));
  points = λ seat s open_.
      (let e = k.points seat s in
      let l = seat_below seat s g.points.items in
      allowed.points s (omega (arith, e, l, open_)));
  batches = λ s x is running. allowed.unclosed s (has_held s g.batches.items hs k.batches ∙ k.held.all s x is running);
}
