-- Cells that wait while a batch is merged.
use Rattle.std.specs.Prelude.{◌≡◌, ℕ, [], min, vec_capacity}
use Rattle.px_memstore.specs.declared.waiting.Waiting.{Waiting}

-- for how many cells there is room
unfoldable pub waiting_room : Waiting → ℕ
waiting_room w = min (vec_capacity w.cells) (vec_capacity w.places)

-- no cell waits
pub record IsIdle (w : Waiting) : Type 0 where
  pub cells : w.cells.items ≡ []
  pub places : w.places.items ≡ []
