-- The room that open batches were promised in the regions of a table.
use Rattle.std.specs.Prelude.{◌≡◌, ℕ, ◌<◌, ◌≤◌, ◌+◌, ◌-◌, List, [], length, get_or, slice_get, Option, None, Some, sum_by, nat_le, if◌then◌else◌}
use Rattle.std.specs.List.{AllByRecursion}
use Rattle.px_cells.specs.CellData.{CellData}
use Rattle.px_cellbytes.specs.Spelling.{all_bytes}
use Rattle.px_keptcells.specs.Kept.{laid}
use Rattle.px_region.specs.declared.region.Region.{Region}
use Rattle.px_phases.specs.Batch.{BatchData}
use Rattle.px_group.specs.declared.group.Begun.{Begun}
use Rattle.px_group.specs.declared.group.Group.{Group}
use Rattle.px_group.specs.declared.group.IndexRegion.{IndexRegion}

-- 1. What a batch still keeps for a region

-- What is kept for the index at a place, row by row: the lists are those for the last ones of so many indexes
unfoldable pub kept_for : ℕ → List (List (List CellData)) → ℕ → List (List CellData)
kept_for count kept i = if nat_le count (i + length kept) then get_or kept (i + length kept - count) [] else []

abbrev pub marks_for : ℕ → Begun → List (List CellData)
marks_for i m = kept_for m.count m.batch.marks i

abbrev pub closes_for : ℕ → Begun → List (List CellData)
closes_for i m = kept_for m.count m.batch.closes i

abbrev pub parts_or_none : Option (List (List CellData)) → List (List CellData)
parts_or_none None = []
parts_or_none (Some parts) = parts

abbrev pub puts_for : Begun → List (List CellData)
puts_for m = parts_or_none m.batch.puts

-- 2. Cells and bytes

abbrev pub byte_count : List CellData → ℕ
byte_count cells = length (all_bytes cells)

abbrev pub cells_at : ℕ → Begun → ℕ
cells_at i m = length (laid (marks_for i m)) + length (laid (closes_for i m))

abbrev pub bytes_at : ℕ → Begun → ℕ
bytes_at i m = byte_count (laid (marks_for i m)) + byte_count (laid (closes_for i m))

abbrev pub cells_of_rows : Begun → ℕ
cells_of_rows m = length (laid (puts_for m))

abbrev pub bytes_of_rows : Begun → ℕ
bytes_of_rows m = byte_count (laid (puts_for m))

-- 3. Room

-- a region has room for so many cells and bytes
abbrev pub HasPromised : Region → (cells bytes : ℕ) → Type 0
HasPromised region cells bytes = (cells ≤ region.promised) × (bytes ≤ region.promised_bytes)

-- no record of a batch has more bytes than one may have
abbrev pub most_bytes : ℕ
most_bytes = 8388608

-- what is kept for one region in one phase fits a record
pub record IsLight (m : Begun) : Type 0 where
  pub marks : (i : ℕ) → byte_count (laid (marks_for i m)) ≤ most_bytes
  pub closes : (i : ℕ) → byte_count (laid (closes_for i m)) ≤ most_bytes
  pub puts : byte_count (laid (puts_for m)) ≤ most_bytes

-- each region has room for all that the batches still keep for it
pub record HasRooms (g : Group) : Type 0 where
  pub rows : HasPromised g.rows (sum_by cells_of_rows g.batches.items) (sum_by bytes_of_rows g.batches.items)
  pub indexes : (i : ℕ) (x : IndexRegion) → slice_get g.indexes.items i ≡ Some x → HasPromised x.region (sum_by (cells_at i) g.batches.items) (sum_by (bytes_at i) g.batches.items)
  pub light : AllByRecursion IsLight g.batches.items
