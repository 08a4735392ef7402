-- The pieces of a list, and what is done with them.
use Rattle.std.specs.Prelude.{◌≡◌, ◌≤◌, ◌<◌, ◌+◌, ◌++◌, ℕ, Bool, true, false, Option, Some, List, [], ◌∷◌, length, take, drop, get_or, map, vec_capacity}
use Rattle.std.specs.List.{AllByRecursion}
use Rattle.std.specs.Ordering.{is_le}
use Rattle.px_cells.specs.CellData.{CellData}
use Rattle.px_cells.specs.Order.{IsSettled, key_cmp}
use Rattle.px_cells.specs.Rows.{AllAbove, AllBelow, AllFrom}
use Rattle.px_memstore.specs.Pieces.{ArePiecesApart, KeysApart, chained}
use Rattle.px_memstore.specs.declared.pieces.Pieces.{Pieces}

-- the lists of all pieces
abbrev pub lists : Pieces → List (List CellData)
lists p = p.first.items ∷ map (λ v. v.items) p.others.items

-- whether a piece has a cell
abbrev pub is_filled : List CellData → Bool
is_filled [] = false
is_filled (c ∷ cells) = true

abbrev pub IsFilled : List CellData → Type 0
IsFilled p = 0 < length p

-- the pieces of a sorted list: whole rows, and only the first may be empty
pub record ArePieces (ps : List (List CellData)) : Type 0 where
  pub apart : ArePiecesApart ps
  pub filled : AllByRecursion IsFilled (drop 1 ps)

-- whether a piece begins at or below a key
abbrev pub begins_by : List CellData → List ℕ → Bool
begins_by [] key = true
begins_by (c ∷ cells) key = is_le (key_cmp c.key key)

-- the place of the one piece that can have the row of a key
pub record IsPlace (ps : List (List CellData)) (key : List ℕ) (at : ℕ) : Type 0 where
  pub within : at < length ps
  pub below : AllBelow key (chained (take at ps))
  pub above : AllAbove key (chained (drop (at + 1) ps))
  pub begins : 0 < at → begins_by (get_or ps at []) key ≡ true

-- there is a piece at a place, and where the range ends it begins at or below that
pub record HasMore (ps : List (List CellData)) (at : ℕ) (high : Option (List ℕ)) : Type 0 where
  pub within : at < length ps
  pub begins : (h : List ℕ) → high ≡ Some h → begins_by (get_or ps at []) h ≡ true

-- a piece is cut in two
abbrev pub cut_at : List (List CellData) → (at place : ℕ) → List (List CellData)
cut_at ps at place = take at ps ++ (take place (get_or ps at []) ∷ (drop place (get_or ps at []) ∷ drop (at + 1) ps))

-- the same cells in other pieces, with the same room
pub record IsSame (old new : Pieces) : Type 0 where
  pub cells : chained (lists new) ≡ chained (lists old)
  pub pieces : ArePieces (lists new)
  pub count : new.count ≡ old.count
  pub capacity : vec_capacity old.first ≤ vec_capacity new.first

-- from a place on the cells of a batch aren't below the first of a piece, and those before it are
pub record HasBegin (batch piece : List CellData) (begin : ℕ) : Type 0 where
  pub within : begin ≤ length batch
  pub from : (c : CellData) (cells : List CellData) → piece ≡ c ∷ cells → AllFrom c.key (drop begin batch)
  pub below : (c : CellData) (cells : List CellData) → piece ≡ c ∷ cells → AllBelow c.key (take begin batch)

-- the cells of a batch from a place on, at least one, belong into one piece
pub record IsLast (ps : List (List CellData)) (batch : List CellData) (at from : ℕ) : Type 0 where
  pub piece : at < length ps
  pub some : from < length batch
  pub below : KeysApart (chained (take at ps)) (drop from batch)
  pub above : KeysApart (drop from batch) (chained (drop (at + 1) ps))

-- the last cells of a batch are put, and the others are left
pub record IsPut (old : Pieces) (batch : List CellData) (new : Pieces) (left : List CellData) : Type 0 where
  pub part : List CellData
  pub of : batch ≡ left ++ part
  pub some : 0 < length part
  pub settled : IsSettled (part ++ chained (lists old)) (chained (lists new))
  pub pieces : ArePieces (lists new)
  pub count : new.count ≡ length (chained (lists new))
  pub len : length (chained (lists new)) ≤ length (chained (lists old)) + length part
  pub capacity : vec_capacity old.first ≤ vec_capacity new.first
