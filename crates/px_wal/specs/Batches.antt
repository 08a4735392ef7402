-- Numbered batches of cells, and the one sorted list that batches and files have together.
use Rattle.std.specs.Prelude.{◌≡◌, ◌<◌, ◌≤◌, ℕ, ◌&&◌, nat_lt, nat_le, filter, List, [], ◌∷◌, ◌++◌}
use Rattle.std.specs.List.{AllByRecursion}
use Rattle.px_cells.specs.CellData.{CellData}
use Rattle.px_cells.specs.Order.{GoesWith}
use Rattle.px_merge.specs.Merged.{joined}
use Rattle.px_merge.specs.Settle.{settle}

-- the cells that were written together, and their number
pub record LogBatch : Type 0 where
  pub number : ℕ
  pub cells : List CellData

-- the cells of batches, of which the later written stand first
abbrev pub later_first : List LogBatch → List CellData
later_first [] = []
later_first (b ∷ batches) = later_first batches ++ b.cells

-- each batch has a greater number than those before it
abbrev pub AreRisingBatches : List LogBatch → Type 0
AreRisingBatches [] = Unit {0}
AreRisingBatches (b ∷ batches) = AllByRecursion (λ c. b.number < c.number) batches × AreRisingBatches batches

-- the batches above a number
abbrev pub batches_above : ℕ → List LogBatch → List LogBatch
batches_above n batches = filter (λ b. nat_lt n b.number) batches

-- the batches above a number, up to another
abbrev pub batches_between : ℕ → ℕ → List LogBatch → List LogBatch
batches_between m n batches = filter (λ b. nat_lt m b.number && nat_le b.number n) batches

-- what is read of the batches above a number, and of files of which the newest stands first
abbrev pub cells_over : ℕ → List LogBatch → List (List CellData) → List CellData
cells_over flushed batches files = settle (later_first (batches_above flushed batches) ++ joined files)

-- batches of which those that are gone were at or below a number
pub record IsRest (flushed : ℕ) (batches rest : List LogBatch) : Type 0 where
  pub gone : List LogBatch
  pub all : batches ≡ gone ++ rest
  pub passed : AllByRecursion (λ b. b.number ≤ flushed) gone

-- every batch above a number has stamps above the horizon alone
abbrev pub AreOverHorizon : ℕ → List LogBatch → Type 0
AreOverHorizon horizon batches = AllByRecursion (λ b. AllByRecursion (λ c. horizon < c.stamp) b.cells) batches

-- each cell of the batches is at a qualifier of its kind
abbrev pub AreQualified : List LogBatch → Type 0
AreQualified batches = AllByRecursion (λ b. AllByRecursion GoesWith b.cells) batches
