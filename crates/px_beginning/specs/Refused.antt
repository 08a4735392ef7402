-- Why no room is promised for a batch.
use Rattle.std.specs.Prelude.{◌≡◌, ◌+◌, ◌<◌, ◌≤◌, ◌⊎◌, ℕ, List, length, get_or}
use Rattle.px_group.specs.declared.group.Group.{Group}
use Rattle.px_group.specs.declared.group.IndexRegion.{IndexRegion}
use Rattle.px_region.specs.Promise.{HasLogRoom, IsLogReady, PassesLimit}
use Rattle.px_region.specs.declared.region.Region.{Region}
use Rattle.px_beginning.specs.declared.fault.BeginFault.{BeginFault}
use Rattle.px_beginning.specs.declared.fault.BeginFault.TheVariants.{Limit, NotReady, Busy, ReadFault, Damaged, Memory}
use Rattle.px_beginning.specs.Rooms.{no_room}
use Rattle.px_beginning.specs.declared.preparing.Prepared.{Prepared}
use Rattle.px_beginning.specs.declared.rooms.Room.{Room}

-- A region refuses a room that isn't empty: its log isn't open or has no room, or it would have too many cells or bytes, which are told without these.
abbrev pub IsRefusedAt : Region → Room → BeginFault → Type 0
IsRefusedAt region room (NotReady number) = (number ≡ region.number) × (0 < room.cells + room.bytes) × ((IsLogReady region → ⊥) ⊎ (HasLogRoom region room.cells room.bytes → ⊥))
IsRefusedAt region room (Busy number cells bytes) = (number ≡ region.number) × (0 < room.cells + room.bytes) × (IsLogReady region × PassesLimit region room.cells room.bytes × (cells ≡ region.cells + region.promised) × (bytes ≡ region.bytes + region.promised_bytes))
IsRefusedAt region room Memory = Unit {0}
IsRefusedAt region room (Limit limit) = ⊥
IsRefusedAt region room ReadFault = ⊥
IsRefusedAt region room (Damaged file place) = ⊥

-- the region of one of the indexes does, from a place on
pub record IsRefusedFrom (i : ℕ) (xs : List IndexRegion) (rooms : List Room) (fault : BeginFault) : Type 0 where
  pub place : ℕ
  pub from : i ≤ place
  pub inside : place < length xs
  pub is : (d : IndexRegion) → IsRefusedAt (get_or xs place d).region (get_or rooms place no_room) fault

-- a region of the group refuses the room of a batch, or memory is refused
abbrev pub IsRefusedOf : Group → Prepared → BeginFault → Type 0
IsRefusedOf g p fault = (fault ≡ Memory) ⊎ (IsRefusedAt g.rows p.rows fault ⊎ IsRefusedFrom 0 g.indexes.items p.indexes.items fault)
