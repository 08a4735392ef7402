-- Nothing is left under way.
use Rattle.std.specs.Prelude.{◌≡◌, ℕ, true, List, Some}
use Rattle.px_trail.specs.Batches.{Batch, batch_of}
use Rattle.px_trail.specs.Trail.{open_points}
use Rattle.px_trail.specs.declared.entry.Entry.{Entry}

-- each batch of each table has ended, and each point is closed
pub record AllEnded (es : List Entry) : Type 0 where
  pub batches : (t s : ℕ) (y : Batch) → batch_of t s es ≡ Some y → y.ended ≡ true
  pub points : (seat t s : ℕ) → open_points seat t s es ≡ 0
