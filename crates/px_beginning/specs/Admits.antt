-- A batch is let in.
use Rattle.std.specs.Prelude.{◌≡◌, ◌+◌, ℕ, List, [], ◌∷◌, ◌++◌, length, map, sum_by, slice_get, Some, is_some, if◌then◌else◌}
use Rattle.px_group.specs.Room.{HasPromised, IsLight, bytes_at, bytes_of_rows, cells_at, cells_of_rows}
use Rattle.px_group.specs.declared.group.Begun.{Begun}
use Rattle.px_group.specs.declared.group.Group.{Group}
use Rattle.px_group.specs.declared.group.IndexRegion.{IndexRegion}
use Rattle.px_openbatches.specs.Pending.{meet_flags}
use Rattle.px_phases.specs.Batch.{BatchData}
use Rattle.px_trail.specs.Batches.{rows_of}
use Rattle.px_values.specs.declared.change.Change.{Change}
use Rattle.px_beginning.specs.Rooms.{fresh_batch}

-- an open batch meets another that begins with these changes, on the rows of both that it is still to write
abbrev pub met_by : List Change → Begun → Begun
met_by others m = record m { batch = record m.batch { met = if is_some m.batch.puts then meet_flags (rows_of others) m.batch.met (rows_of m.batch.changes) else m.batch.met } }

-- the batches after one more has begun
abbrev pub batches_with : List Begun → ℕ → BatchData → List Begun
batches_with ms count b = map (met_by b.changes) ms ++ fresh_batch count b ∷ []

-- each region has room for what the batches still keep for it, and for the one that begins
pub record HasRoomsWith (g : Group) (m : Begun) : Type 0 where
  pub rows : HasPromised g.rows (sum_by cells_of_rows g.batches.items + cells_of_rows m) (sum_by bytes_of_rows g.batches.items + bytes_of_rows m)
  pub indexes : (i : ℕ) (x : IndexRegion) → slice_get g.indexes.items i ≡ Some x → HasPromised x.region (sum_by (cells_at i) g.batches.items + cells_at i m) (sum_by (bytes_at i) g.batches.items + bytes_at i m)
  pub light : IsLight m

-- the batch is the last one, the others have met it, and nothing else changed
pub record Admits (g : Group) (b : BatchData) (g' : Group) : Type 0 where
  pub table : g'.table ≡ g.table
  pub rows : g'.rows ≡ g.rows
  pub indexes : g'.indexes ≡ g.indexes
  pub batches : g'.batches.items ≡ batches_with g.batches.items (length g.indexes.items) b
  pub points : g'.points ≡ g.points
  pub last : g'.last ≡ b.stamp
  pub horizon : g'.horizon ≡ g.horizon
