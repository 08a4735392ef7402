-- What is found at the keys of the first cells of a list.
use Rattle.std.specs.Prelude.{◌≡◌, ◌<◌, ℕ, List, None}
use Rattle.px_cells.specs.CellData.{CellData}
use Rattle.px_cells.specs.Contents.{value_at}
use Rattle.px_region.specs.Giving.{key_at}
use Rattle.px_trail.specs.Answers.{IsAmong}
use Rattle.px_calls.specs.Looks.{IsRisingFrom, key_found}
use Rattle.px_calls.specs.declared.query.FoundKey.{FoundKey}
use Rattle.px_looks.specs.Found.{RowContents, at_key}

-- the key is that of one of the first n cells
pub record IsKeyAmong (cells : List CellData) (n : ℕ) (key : List ℕ) : Type 0 where
  pub place : ℕ
  pub within : place < n
  pub is : key_at cells place ≡ key

-- all that is shown of the keys of the first n cells, in order
pub record FoundAmong (shows : List ℕ → RowContents → FoundKey → Type 0) (cells : List CellData) (n : ℕ) (fs : List FoundKey) : Type 0 where
  pub rising : IsRisingFrom None fs
  pub own : (f : FoundKey) → IsAmong f fs → IsKeyAmong cells n (key_found f)
  pub right : (f : FoundKey) → IsAmong f fs → shows (key_found f) (at_key (value_at cells) (key_found f)) f
  pub whole : (i : ℕ) → i < n → (f : FoundKey) → shows (key_at cells i) (at_key (value_at cells) (key_at cells i)) f → IsAmong f fs
