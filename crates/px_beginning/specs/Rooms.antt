-- The room that a batch takes in the regions.
use Rattle.std.specs.Prelude.{◌≡◌, ◌<◌, ◌⊎◌, ℕ, ◌≤◌, ◌+◌, List, [], length, get_or, min, Some}
use Rattle.std.specs.List.{All}
use Rattle.px_cells.specs.CellData.{CellData}
use Rattle.px_cellbytes.specs.Spelling.{all_bytes}
use Rattle.px_group.specs.Room.{bytes_at, bytes_of_rows, cells_at, cells_of_rows}
use Rattle.px_group.specs.declared.group.Begun.{Begun}
use Rattle.px_group.specs.declared.group.Group.{Group}
use Rattle.px_group.specs.declared.group.Phase.TheVariants.{Marking}
use Rattle.px_keptcells.specs.Kept.{laid}
use Rattle.px_phases.specs.Batch.{BatchData}
use Rattle.px_phases.specs.declared.transition.Transition.{Transition}
use Rattle.px_trail.specs.Batches.{rows_of}
use Rattle.px_values.specs.declared.change.Change.{Change}
use Rattle.px_beginning.specs.Begins.{IsBatchOf, IsMadeOf}
use Rattle.px_beginning.specs.declared.preparing.Prepared.{Prepared}
use Rattle.px_beginning.specs.declared.rooms.Room.{Room}

-- 1. The room of cells

abbrev pub no_room : Room
no_room = record { cells = 0; bytes = 0 }

-- the room that these marks and closes take; it stands still at its type's end
pub record HasRoomFor (room : Room) (marks closes : List (List CellData)) : Type 0 where
  pub cells : room.cells ≡ min (length (laid marks) + length (laid closes)) 18446744073709551615
  pub bytes : room.bytes ≡ min (length (all_bytes (laid marks)) + length (all_bytes (laid closes))) 18446744073709551615

pub record AreRoomsFor (rooms : List Room) (marks closes : List (List (List CellData))) : Type 0 where
  pub count : length rooms ≡ length marks
  pub each : (i : ℕ) → i < length marks → HasRoomFor (get_or rooms i no_room) (get_or marks i []) (get_or closes i [])

-- 2. Limits

-- at most 8,192 cells
abbrev pub HasFew : Room → Type 0
HasFew room = room.cells ≤ 8192

-- at most 8,388,608 bytes of them
abbrev pub IsLightRoom : Room → Type 0
IsLightRoom room = room.bytes ≤ 8388608

-- not all of the rooms are so
abbrev pub PassesIn : (Room → Type 0) → Room → List Room → Type 0
PassesIn P rows indexes = P rows × All P indexes → ⊥

-- 3. The room of a batch

-- a batch that begins, at so many indexes
abbrev pub fresh_batch : ℕ → BatchData → Begun
fresh_batch count batch = record { phase = Marking; count = count; batch = batch; rows = Some (rows_of batch.changes); receipt = rows_of batch.changes }

-- it is what the batch keeps for each region
pub record AreRoomsOf (count : ℕ) (p : Prepared) : Type 0 where
  pub rows : (p.rows.cells ≡ cells_of_rows (fresh_batch count p.batch)) × (p.rows.bytes ≡ bytes_of_rows (fresh_batch count p.batch))
  pub count_is : length p.indexes.items ≡ count
  pub indexes : (i : ℕ) → i < count → ((get_or p.indexes.items i no_room).cells ≡ cells_at i (fresh_batch count p.batch)) × ((get_or p.indexes.items i no_room).bytes ≡ bytes_at i (fresh_batch count p.batch))
  pub few : HasFew p.rows × All HasFew p.indexes.items
  pub light : IsLightRoom p.rows × All IsLightRoom p.indexes.items

-- 4. Too much room

-- so much is more than the most, of what the batch keeps for the region of the rows or for that of an index
abbrev pub PassesAt : (rows : Begun → ℕ) (at : ℕ → Begun → ℕ) (most count : ℕ) → BatchData → Type 0
PassesAt rows at most count batch = (most < rows (fresh_batch count batch)) ⊎ ((i : ℕ) × ((i < count) × (most < at i (fresh_batch count batch))))

-- what is made of the changes is too much
pub record MakesTooMuch (rows : Begun → ℕ) (at : ℕ → Begun → ℕ) (most : ℕ) (g : Group) (s : ℕ) (cs : List Change) (xs : List Transition) : Type 0 where
  pub batch : BatchData
  pub made : IsMadeOf g s cs xs batch
  pub passes : PassesAt rows at most (length g.indexes.items) batch

-- the batch of these changes keeps too much
pub record KeepsTooMuch (rows : Begun → ℕ) (at : ℕ → Begun → ℕ) (most : ℕ) (g : Group) (s : ℕ) (cs : List Change) : Type 0 where
  pub batch : BatchData
  pub is : IsBatchOf g s cs batch
  pub passes : PassesAt rows at most (length g.indexes.items) batch

-- more than 8,192 cells in a region
abbrev pub HasManyCells : Group → ℕ → List Change → Type 0
HasManyCells = KeepsTooMuch cells_of_rows cells_at 8192

-- more than 8,388,608 bytes of them
abbrev pub HasManyBytes : Group → ℕ → List Change → Type 0
HasManyBytes = KeepsTooMuch bytes_of_rows bytes_at 8388608
