-- The newest of the stamps up to a point.
use Rattle.std.specs.Prelude.{ℕ, zero, suc, Bool, cond, Option, Some, None}

-- the newest stamp at most x that hits, if no stop stands at or above it
unfoldable pub newest : (ℕ → Bool) → (ℕ → Bool) → ℕ → Option ℕ
newest stop hit zero = cond (stop zero) None (cond (hit zero) (Some zero) None)
newest stop hit (suc p) = cond (stop (suc p)) None (cond (hit (suc p)) (Some (suc p)) (newest stop hit p))
