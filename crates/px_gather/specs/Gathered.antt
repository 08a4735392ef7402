-- What a scan has gathered.
use Rattle.std.specs.Prelude.{ℕ, ◌≡◌, ◌⊎◌, ◌≤◌, nat_le, not, Bool, true, false, if◌then◌else◌, Option, None, Some, List, [], ◌∷◌, map, length, take}
use Rattle.px_values.specs.declared.row.Value.{Value}
use Rattle.px_trail.specs.declared.entry.Entry.{Entry}
use Rattle.px_trail.specs.Answers.{Given, IsAmong}
use Rattle.px_trail.specs.Trail.{Base}
use Rattle.px_calls.specs.declared.query.By.{By}
use Rattle.px_calls.specs.declared.query.FoundKey.{FoundKey}
use Rattle.px_calls.specs.declared.query.FoundKey.TheVariants.{Sure, InDoubt}
use Rattle.px_calls.specs.declared.query.Held.{Held}
use Rattle.px_calls.specs.declared.query.Path.{Path}
use Rattle.px_calls.specs.declared.query.Point.{Point}
use Rattle.px_calls.specs.Looks.{IsDoubtOf, IsRightRow, IsRisingFrom, IsRowAt, IsRowShown, is_covered, is_past, key_by, key_found, key_less}
use Rattle.px_calls.specs.Requires.{FitsRow}
use Rattle.px_gather.specs.Query.{Query}

-- a scan: what stood before the trail, the point that it reads at, the query that it answers, and the path that it follows
pub record Frame : Type 0 where
  pub base : Base
  pub point : Point
  pub query : Query
  pub path : Path

-- the key of a row on the path
abbrev pub frame_key : Frame → List Value → List ℕ
frame_key f row = key_by f.point.found f.path.by row

-- after how many entries the point was opened
abbrev pub opened_at : Frame → ℕ
opened_at f = f.point.found.at

-- 1. Rows of the table

-- the table has the row at the point after the first n entries
abbrev pub IsRowAfter : Frame → List Entry → ℕ → List Value → Type 0
IsRowAfter f es n row = IsRowAt f.base (take n es) f.point row

-- the row stood from when the point was opened
pub record Stood (f : Frame) (es : List Entry) (row : List Value) : Type 0 where
  pub all : (n : ℕ) → opened_at f ≤ n → n ≤ length es → IsRowAfter f es n row

-- the row was held at its place, and meets the condition
pub record IsHeldAt (f : Frame) (es : List Entry) (x : Given) : Type 0 where
  pub from : opened_at f ≤ x.at
  pub to : x.at ≤ length es
  pub held : IsRowAfter f es x.at x.row
  pub met : f.query.meets x.row ≡ true

-- 2. Rows that are given

-- the keys rise, so none comes twice
unfoldable pub AreRisingRows : Frame → List Given → Type 0
AreRisingRows f [] = Unit {0}
AreRisingRows f (x ∷ xs) = ((y : Given) → IsAmong y xs → key_less (frame_key f x.row) (frame_key f y.row) ≡ true) × AreRisingRows f xs

-- a row with this key and these named values is given
pub record HasRow (f : Frame) (xs : List Given) (row : List Value) : Type 0 where
  pub given : Given
  pub among : IsAmong given xs
  pub key : frame_key f given.row ≡ frame_key f row
  pub same : f.query.named given.row ≡ f.query.named row

-- the keys up to one
abbrev pub up_to : Option (List ℕ) → List ℕ → Bool
up_to None k = false
up_to (Some last) k = not (key_less last k)

-- what was gathered of the keys that are done with: each row was held at its place and meets the condition, they are in order, and each
-- row that stood and meets it is given. Where a key is done with, each row that stood is one that the table may have
pub record Collected (f : Frame) (es : List Entry) (done : List ℕ → Bool) (xs : List Given) : Type 0 where
  pub held : (x : Given) → IsAmong x xs → IsHeldAt f es x
  pub passed : (x : Given) → IsAmong x xs → done (frame_key f x.row) ≡ true
  pub rising : AreRisingRows f xs
  pub whole : (row : List Value) → Stood f es row → f.query.meets row ≡ true → done (frame_key f row) ≡ true → HasRow f xs row
  pub fits : (k : List ℕ) → done k ≡ true → (row : List Value) → Stood f es row → FitsRow f.point.found.table row

-- with this LIMIT so many rows are enough
abbrev pub is_full : Option ℕ → ℕ → Bool
is_full None n = false
is_full (Some limit) n = nat_le limit n

abbrev pub is_within : Option ℕ → ℕ → Bool
is_within None n = true
is_within (Some limit) n = nat_le n limit

-- LIMIT rows are given, and they all come before the key
pub record IsCutAt (f : Frame) (xs : List Given) (k : List ℕ) : Type 0 where
  pub full : f.query.limit ≡ Some (length xs)
  pub before : (x : Given) → IsAmong x xs → key_less (frame_key f x.row) k ≡ true

-- 3. Rows as they are kept

-- the named values of a row, and its place
abbrev pub named_of : Query → Given → Given
named_of q x = record { row = q.named x.row; at = x.at }

-- the rows that were kept have the named values and the places of whole rows that were gathered
pub record Gathered (f : Frame) (es : List Entry) (done : List ℕ → Bool) (rows : List Given) : Type 0 where
  pub given : List Given
  pub same : map (named_of f.query) rows ≡ map (named_of f.query) given
  pub collected : Collected f es done given
  pub within : is_within f.query.limit (length rows) ≡ true

-- what a scan gathered that has come to its end
pub record Ended (f : Frame) (es : List Entry) (rows : List Given) : Type 0 where
  pub done : List ℕ → Bool
  pub gathered : Gathered f es done rows
  pub complete : (k : List ℕ) → (done k ≡ true) ⊎ IsCutAt f gathered.given k
  pub fits : (row : List Value) → Stood f es row → FitsRow f.point.found.table row

-- 4. Keys that are still to be gone through

-- a sure key has its row at the point, and a doubt is of the index that is read
abbrev pub IsRightKey : Base → List Entry → Point → By → FoundKey → Type 0
IsRightKey b es p by (Sure f) = IsRightRow b es p by f
IsRightKey b es p by (InDoubt d) = IsDoubtOf p.found by d

-- what a look gave, after n entries, and is still to be gone through
pub record Left (f : Frame) (es : List Entry) (n : ℕ) (cursor : Option (List ℕ)) (fs : List FoundKey) (next : Option (List ℕ)) : Type 0 where
  pub from : opened_at f ≤ n
  pub to : n ≤ length es
  pub rising : IsRisingFrom cursor fs
  pub before : (k : List ℕ) → up_to cursor k ≡ true → is_covered next k ≡ true
  pub covered : (g : FoundKey) → IsAmong g fs → is_covered next (key_found g) ≡ true
  pub right : (g : FoundKey) → IsAmong g fs → IsRightKey f.base (take n es) f.point f.path.by g
  pub fits : (row : List Value) → IsRowAfter f es n row → FitsRow f.point.found.table row
  pub whole : (row : List Value) → IsRowAfter f es n row → f.query.meets row ≡ true → is_past cursor (frame_key f row) ≡ true → is_covered next (frame_key f row) ≡ true
      → IsRowShown fs f.point.found f.path.by row

-- what a look gave and is still to be gone through, and what was gathered before it
pub record Pending (f : Frame) (es : List Entry) (n : ℕ) (fs : List FoundKey) (next : Option (List ℕ)) (rows : List Given) : Type 0 where
  pub cursor : Option (List ℕ)
  pub left : Left f es n cursor fs next
  pub gathered : Gathered f es (up_to cursor) rows

-- what is kept of a row that was read
abbrev pub kept : Query → List Value → ℕ → List Given
kept q row at = if q.meets row then record { row = row; at = at } ∷ [] else []

-- and of the row that a doubt brought
abbrev pub kept_held : Query → Option Held → List Given
kept_held q None = []
kept_held q (Some h) = kept q h.row h.at
