-- The turns of a table, as far as a horizon depends on them.
use Rattle.std.specs.Prelude.{◌-◌, ◌==◌, ℕ, Bool, false, List, [], ◌∷◌, min, sum_by}
use Rattle.std.specs.List.{list_any}
use Rattle.px_group.specs.Group.{one_if}
use Rattle.px_group.specs.declared.group.Begun.{Begun}
use Rattle.px_group.specs.declared.group.Group.{Group}
use Rattle.px_group.specs.declared.group.OpenPoint.{OpenPoint}
use Rattle.px_turns.specs.Turns.{Turning}

-- one of the batches has the stamp
abbrev pub has_batch : List Begun → ℕ → Bool
has_batch batches s = list_any (λ m. m.batch.stamp == s) batches

-- how many of the points are open at the stamp, of whichever seat
abbrev pub points_at : List OpenPoint → ℕ → ℕ
points_at points s = sum_by (λ p. one_if (p.stamp == s)) points

-- Its last stamp and its horizon, the batches that have begun and not ended, and how many points are open at each stamp. What the
-- batches are still to write is left out: no horizon depends on it.
abbrev pub turning_of_group : Group → Turning
turning_of_group g =
    record {
      last = g.last;
      horizon = g.horizon;
      pending = λ k. [];
      undecided = λ s. false;
      unclosed = λ s. has_batch g.batches.items s;
      points = λ s. points_at g.points.items s;
    }

-- The bounds, one after another

unfoldable pub below_batches : List Begun → ℕ → ℕ
below_batches [] most = most
below_batches (m ∷ batches) most = below_batches batches (min most (m.batch.stamp - 1))

unfoldable pub to_points : List OpenPoint → ℕ → ℕ
to_points [] most = most
to_points (p ∷ points) most = to_points points (min most p.stamp)
