-- A range that is gone through part by part.
use Rattle.std.specs.Prelude.{◌≡◌, ◌≢◌, ◌↔◌, ℕ, true, List, Option, None, Some}
use Rattle.std.specs.declared.cmp.Ordering.TheVariants.{Less}
use Rattle.px_cells.specs.Contents.{Contents}
use Rattle.px_cells.specs.Order.{key_cmp}
use Rattle.px_cells.specs.Rows.{IsBeforeEnd}
use Rattle.px_trail.specs.Answers.{IsAmong}
use Rattle.px_calls.specs.Looks.{is_past, key_found}
use Rattle.px_calls.specs.declared.query.FoundKey.{FoundKey}
use Rattle.px_looks.specs.Found.{AreFoundIn, RowContents}

-- the one end, or else the other
abbrev pub end_or : Option (List ℕ) → Option (List ℕ) → Option (List ℕ)
end_or None high = high
end_or (Some e) high = Some e

-- the first key from `low` on and past `after`
pub record IsFirst (low : List ℕ) (after : Option (List ℕ)) (from : List ℕ) : Type 0 where
  pub each : (k : List ℕ) → (key_cmp k from ≢ Less) ↔ ((key_cmp k low ≢ Less) × (is_past after k ≡ true))

-- the keys from one on are gone through up to before `to`, and what was found is on the path
pub record FoundTo (shows : List ℕ → RowContents → FoundKey → Type 0) (g : Contents) (from : List ℕ) (high : Option (List ℕ)) (to : List ℕ) (fs : List FoundKey) : Type 0 where
  pub found : AreFoundIn shows g from (Some to) fs
  pub below : (f : FoundKey) → IsAmong f fs → IsBeforeEnd (key_found f) high
  pub up : key_cmp to from ≢ Less
