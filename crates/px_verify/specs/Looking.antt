-- Looks on a whole path, one after another.
use Rattle.std.specs.Prelude.{ℕ, ◌≡◌, ◌≤◌, ◌↔◌, Option, None, Some, List, [], ◌∷◌, ◌++◌, length, take}
use Rattle.px_values.specs.declared.row.Value.{Value}
use Rattle.px_trail.specs.declared.entry.Entry.{Entry}
use Rattle.px_trail.specs.Answers.{IsAmong}
use Rattle.px_trail.specs.Trail.{Base}
use Rattle.px_calls.specs.declared.query.By.{By}
use Rattle.px_calls.specs.declared.query.Chunk.{Chunk}
use Rattle.px_calls.specs.declared.query.FoundKey.{FoundKey}
use Rattle.px_calls.specs.declared.query.Path.{Path}
use Rattle.px_calls.specs.declared.query.Point.{Point}
use Rattle.px_calls.specs.Calls.{DidLook}
use Rattle.px_calls.specs.Known.{Known}
use Rattle.px_calls.specs.Looks.{IsRowAt}

-- the path with every key
abbrev pub whole : By → Path
whole by = record { by = by; low = []; high = None }

-- a look on the whole path past `after` found this chunk, when the first of these entries had been seen
pub record HasFoundChunk (sound : Type 0) (k : Known) (p : Point) (by : By) (after : Option (List ℕ)) (c : Chunk) : Type 0 where
  pub before : Known
  pub then : Known
  pub did : DidLook sound before then p (whole by) after c
  pub seen : then.seen ≡ take c.at k.seen
  pub since : p.found.at ≤ c.at
  pub within : c.at ≤ length k.seen
  pub base : then.base ≡ k.base

-- looks from `from` on, each past the last key of the one before; the next of them is past `to`
abbrev pub AreLooks : Type 0 → Known → Point → By → Option (List ℕ) → List Chunk → Option (List ℕ) → Type 0
AreLooks sound k p by from [] to = from ≡ to
AreLooks sound k p by from (c ∷ cs) to = HasFoundChunk sound k p by from c × ((last : List ℕ) × (c.next ≡ Some last) × AreLooks sound k p by (Some last) cs to)

-- what they found
abbrev pub found_in : List Chunk → List FoundKey
found_in [] = []
found_in (c ∷ cs) = c.found ++ found_in cs

-- these keys are what looks on the whole path found, of which the last came to its end
pub record IsLooked (sound : Type 0) (k : Known) (p : Point) (by : By) (keys : List FoundKey) : Type 0 where
  pub before : List Chunk
  pub from : Option (List ℕ)
  pub looks : AreLooks sound k p by None before from
  pub last : Chunk
  pub looked : HasFoundChunk sound k p by from last
  pub end : last.next ≡ None
  pub keys_are : keys ≡ found_in before ++ last.found

-- no row comes twice
unfoldable pub AreDistinctRows : List (List Value) → Type 0
AreDistinctRows [] = Unit {0}
AreDistinctRows (row ∷ rows) = (IsAmong row rows → ⊥) × AreDistinctRows rows

-- these are the rows of the table at the point, each once
pub record AreRowsAtPoint (b : Base) (es : List Entry) (p : Point) (rows : List (List Value)) : Type 0 where
  pub once : AreDistinctRows rows
  pub each : (row : List Value) → IsAmong row rows ↔ IsRowAt b es p row
