-- What is found at the keys of a region.
use Rattle.std.specs.Prelude.{◌≡◌, ℕ, true, List, Option, None, Some}
use Rattle.px_cells.specs.declared.kind.CellKind.{CellKind}
use Rattle.px_cells.specs.Contents.{Contents}
use Rattle.px_trail.specs.Answers.{IsAmong}
use Rattle.px_calls.specs.Looks.{IsRisingFrom, IsSized, is_covered, is_past, key_found}
use Rattle.px_calls.specs.declared.query.FoundKey.{FoundKey}
use Rattle.px_looks.specs.Keys.{IsBetweenKeys}

-- what stands at one key
abbrev pub RowContents : Type 0
RowContents = ℕ → ℕ → CellKind → Option (List ℕ)

abbrev pub at_key : Contents → List ℕ → RowContents
at_key g k = λ q s d. g k q s d

-- all that is shown of the keys from `low` on and below `high`, in order, and nothing else
pub record AreFoundIn (shows : List ℕ → RowContents → FoundKey → Type 0) (g : Contents) (low : List ℕ) (high : Option (List ℕ)) (fs : List FoundKey) : Type 0 where
  pub rising : IsRisingFrom None fs
  pub right : (f : FoundKey) → IsAmong f fs → IsBetweenKeys low high (key_found f) × shows (key_found f) (at_key g (key_found f)) f
  pub whole : (k : List ℕ) (f : FoundKey) → IsBetweenKeys low high k → shows k (at_key g k) f → IsAmong f fs

-- The next of what is shown of these keys, past `after`: at most 64, in order, and all of them up to `next`, which is one
-- of them, or to the end
pub record AreNext (shows : List ℕ → RowContents → FoundKey → Type 0) (g : Contents) (low : List ℕ) (high after : Option (List ℕ)) (fs : List FoundKey) (next : Option (List ℕ)) : Type 0 where
  pub rising : IsRisingFrom after fs
  pub sized : IsSized fs next
  pub last : (n : List ℕ) → next ≡ Some n → (f : FoundKey) × IsAmong f fs × (key_found f ≡ n)
  pub covered : (f : FoundKey) → IsAmong f fs → is_covered next (key_found f) ≡ true
  pub right : (f : FoundKey) → IsAmong f fs → IsBetweenKeys low high (key_found f) × shows (key_found f) (at_key g (key_found f)) f
  pub whole : (k : List ℕ) (f : FoundKey) → IsBetweenKeys low high k → is_past after k ≡ true → is_covered next k ≡ true → shows k (at_key g k) f → IsAmong f fs
