-- What bytes tell by the places of their fields, whether or not they are of the format.
use Rattle.std.specs.Prelude.{ℕ, zero, suc, ◌+◌, List, [], ◌∷◌, take, drop, slice_index, Option, Some, None}
use Rattle.std.specs.Int.{w64, from_be_bytes}
use Rattle.std.specs.List.{flat_map}
use Rattle.px_cells.specs.declared.kind.CellKind.{CellKind}
use Rattle.px_cells.specs.declared.kind.CellKind.TheVariants.{Put}
use Rattle.px_cells.specs.CellData.{CellData}
use Rattle.px_cells.specs.Kind.{kind_of_code}
use Rattle.px_cellbytes.specs.Reading.{key_size, value_size}
use Rattle.px_block.specs.Reading.{count_in}
use Rattle.px_file.specs.Format.{EntryData}

-- the kind, or a put where there is none
abbrev pub kind_or_put : Option CellKind → CellKind
kind_or_put (Some kind) = kind
kind_or_put None = Put

-- the qualifier stands behind the key, and the kind behind the stamp
abbrev pub qualifier_told : List ℕ → ℕ
qualifier_told bytes = slice_index bytes (2 + key_size bytes)

abbrev pub kind_told : List ℕ → CellKind
kind_told bytes = kind_or_put (kind_of_code (slice_index bytes (11 + key_size bytes)))

-- the stamp stands in eight bytes behind key and qualifier
abbrev pub stamp_told : List ℕ → ℕ
stamp_told bytes = from_be_bytes w64 (take 8 (drop (3 + key_size bytes) bytes))

-- the cell that begins the bytes
abbrev pub cell_told : List ℕ → CellData
cell_told bytes = record {
  key = take (key_size bytes) (drop 2 bytes);
  qualifier = qualifier_told bytes;
  stamp = stamp_told bytes;
  kind = kind_told bytes;
  value = take (value_size bytes) (drop (14 + key_size bytes) bytes);
}

-- how many bytes it has
abbrev pub size_told : List ℕ → ℕ
size_told bytes = 14 + key_size bytes + value_size bytes

-- so many cells, one behind the other
unfoldable pub cells_told : ℕ → List ℕ → List CellData
cells_told zero bytes = []
cells_told (suc n) bytes = cell_told bytes ∷ cells_told n (drop (size_told bytes) bytes)

-- the cells of a block
abbrev pub block_told : List ℕ → List CellData
block_told bytes = cells_told (count_in bytes) (drop 4 bytes)

-- the cells of the block that an entry of an index says
abbrev pub entry_told : List ℕ → EntryData → List CellData
entry_told bytes e = block_told (take e.len (drop e.place bytes))

-- the cells of a file with this index
abbrev pub file_told : List EntryData → List ℕ → List CellData
file_told entries bytes = flat_map (entry_told bytes) entries
