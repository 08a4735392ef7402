-- What a step of an open batch does to its table.
use Rattle.std.specs.Prelude.{◌≡◌, ℕ, ◌+◌, ◌<◌, ◌≤◌, Bool, true, false, ◌&&◌, nat_lt, is_some, List, [], ◌∷◌, length, remove, slice_get, ◌⊎◌, Some, None, Result, Ok, Err}
use Rattle.std.specs.List.{list_any}
use Rattle.std.proofs.Math.ListN.{set}
use Rattle.px_outside.specs.declared.disk.Disk.{Ghosts}
use Rattle.px_cells.specs.CellData.{CellData}
use Rattle.px_keptcells.specs.Kept.{but, laid}
use Rattle.px_region.specs.declared.region.Region.{Region}
use Rattle.px_openbatches.specs.Pending.{flagged}
use Rattle.px_trail.specs.Batches.{Batch, batch_of, has, rows_of, unwritten}
use Rattle.px_trail.specs.declared.entry.Entry.{Entry}
use Rattle.px_values.specs.declared.row.Value.{Value}
use Rattle.px_outside.specs.declared.disk.Failed.{Failed}
use Rattle.px_calls.specs.declared.ticket.Marks.{Marks}
use Rattle.px_calls.specs.declared.ticket.Marks.TheVariants as marks
use Rattle.px_calls.specs.declared.ticket.Verifies.{Verifies}
use Rattle.px_calls.specs.declared.ticket.Verifies.TheVariants as verifies
use Rattle.px_phases.specs.Batch.{BatchData, IsHanded, left_in}
use Rattle.px_group.specs.Room.{byte_count}
use Rattle.px_group.specs.Writing.{HasWritten, WritesTo}
use Rattle.px_group.specs.declared.group.Begun.{Begun}
use Rattle.px_group.specs.declared.group.Group.{Group}
use Rattle.px_group.specs.declared.group.IndexRegion.{IndexRegion}
use Rattle.px_group.specs.declared.group.Phase.{Phase}
use Rattle.px_batching.specs.declared.ending.Told.{Told}
use Rattle.px_group.specs.declared.group.Phase.TheVariants.{Marking, Writing, Verifying, Closing}

-- 1. What changes

-- the batch at the place is in this phase
pub record StandsInPhase (g : Group) (m : ℕ) (phase : Phase) : Type 0 where
  pub batch : Begun
  pub is : slice_get g.batches.items m ≡ Some batch
  pub phase_is : batch.phase ≡ phase

-- the batch at place m goes on; the table, its points and its numbers stay
pub record IsBatchStep (g g' : Group) (m : ℕ) (x x' : Begun) : Type 0 where
  pub batch : slice_get g.batches.items m ≡ Some x
  pub batches : g'.batches.items ≡ set g.batches.items m x'
  pub table : g'.table ≡ g.table
  pub points : g'.points ≡ g.points
  pub last : g'.last ≡ g.last
  pub horizon : g'.horizon ≡ g.horizon

-- and so does the region of the index at place i, but no other
pub record IsIndexStep (g g' : Group) (m : ℕ) (x x' : Begun) (i : ℕ) (y : IndexRegion) (new : Region) : Type 0 where
  pub step : IsBatchStep g g' m x x'
  pub index : slice_get g.indexes.items i ≡ Some y
  pub rows : g'.rows ≡ g.rows
  pub indexes : g'.indexes.items ≡ set g.indexes.items i (record y { region = new })

-- or the region of the rows
pub record IsRowStep (g g' : Group) (m : ℕ) (x x' : Begun) (new : Region) : Type 0 where
  pub step : IsBatchStep g g' m x x'
  pub rows : g'.rows ≡ new
  pub indexes : g'.indexes ≡ g.indexes

-- or no region
pub record IsQuietStep (g g' : Group) (m : ℕ) (x x' : Begun) : Type 0 where
  pub step : IsBatchStep g g' m x x'
  pub rows : g'.rows ≡ g.rows
  pub indexes : g'.indexes ≡ g.indexes

-- so many cells and bytes of the room that was promised are used
pub record UsesRoom (old new : Region) (cells bytes : ℕ) : Type 0 where
  pub promised : new.promised + cells ≡ old.promised
  pub promised_bytes : new.promised_bytes + bytes ≡ old.promised_bytes

-- 2. Phase 1

-- the batch at the place has marks to hand out
pub record HasMarks (g : Group) (m : ℕ) : Type 0 where
  pub at : StandsInPhase g m Marking
  pub left : 0 < length at.batch.batch.marks

-- The marks of the batch at place m for its next index are handed to that index's region, whether or not the disk fails.
pub record HandsMarks {D : Type 0} (d : Ghosts D) (g g' : Group) (disk disk' : D) (m : ℕ) : Type 0 where
  pub batch : Begun
  pub marking : batch.phase ≡ Marking
  pub parts : List (List CellData)
  pub rest : List (List (List CellData))
  pub kept : batch.batch.marks ≡ parts ∷ rest
  pub place : ℕ
  pub next : place + length batch.batch.marks ≡ batch.count
  pub index : IndexRegion
  pub region : Region
  pub cells : List CellData
  pub handed : IsHanded cells (laid parts)
  pub step : IsIndexStep g g' m batch (record batch { batch = record batch.batch { marks = rest } }) place index region
  pub writes : WritesTo d index.region region disk disk' cells

-- Where it doesn't fail they are written.
pub record WroteMarks {D : Type 0} (d : Ghosts D) (g g' : Group) (disk disk' : D) (m : ℕ) : Type 0 where
  pub hands : HandsMarks d g g' disk disk' m
  pub written : HasWritten d hands.index.region hands.region disk disk' hands.cells
  pub room : UsesRoom hands.index.region hands.region (length (laid hands.parts)) (byte_count (laid hands.parts))

-- no index is left to be marked, and the batch is to write its rows
pub record FinishesMarks (g g' : Group) (m : ℕ) : Type 0 where
  pub batch : Begun
  pub none : batch.batch.marks ≡ []
  pub marking : batch.phase ≡ Marking
  pub step : IsQuietStep g g' m batch (record batch { phase = Writing })

-- the batch at the place has marked its indexes
pub record HasMarkedIndexes (g : Group) (m : ℕ) : Type 0 where
  pub at : StandsInPhase g m Marking
  pub none : at.batch.batch.marks ≡ []

-- with the last index, or at once where there is none
pub record MarksAll {D : Type 0} (d : Ghosts D) (g g' : Group) (disk disk' : D) (m : ℕ) : Type 0 where
  pub middle : Group
  pub before : ((middle ≡ g) × (disk' ≡ disk)) ⊎ WroteMarks d g middle disk disk' m
  pub last : FinishesMarks middle g' m

-- what `mark` does, by its answer
abbrev pub Marked : {D : Type 0} → Ghosts D → Group → Group → D → D → ℕ → Result Marks Failed → Type 0
Marked d g g' disk disk' m (Ok marks.More) = WroteMarks d g g' disk disk' m × HasMarks g' m
Marked d g g' disk disk' m (Ok marks.AllMarked) = MarksAll d g g' disk disk' m
Marked d g g' disk disk' m (Err e) = HandsMarks d g g' disk disk' m

-- 3. Phase 2

-- The cells of the batch's rows are handed to the region of the rows.
pub record HandsPuts {D : Type 0} (d : Ghosts D) (g g' : Group) (disk disk' : D) (m : ℕ) (phase : Phase) : Type 0 where
  pub batch : Begun
  pub writing : batch.phase ≡ Writing
  pub parts : List (List CellData)
  pub kept : batch.batch.puts ≡ Some parts
  pub region : Region
  pub cells : List CellData
  pub handed : IsHanded cells (laid parts)
  pub step : IsRowStep g g' m batch (record batch { phase = phase; batch = record batch.batch { puts = None }; rows = None }) region
  pub writes : WritesTo d g.rows region disk disk' cells

-- these are its rows
pub record TakesRows (g : Group) (m : ℕ) (rows : List (List Value)) : Type 0 where
  pub batch : Begun
  pub is : slice_get g.batches.items m ≡ Some batch
  pub rows_are : rows ≡ rows_of batch.batch.changes

pub record WrotePuts {D : Type 0} (d : Ghosts D) (g g' : Group) (disk disk' : D) (m : ℕ) : Type 0 where
  pub hands : HandsPuts d g g' disk disk' m Verifying
  pub written : HasWritten d g.rows hands.region disk disk' hands.cells
  pub room : UsesRoom g.rows hands.region (length (laid hands.parts)) (byte_count (laid hands.parts))

-- 4. Phase 3

-- the batch at the place has marks to close
pub record HasCloses (g : Group) (m : ℕ) : Type 0 where
  pub at : StandsInPhase g m Verifying
  pub left : 0 < length at.batch.batch.closes

-- What closes the marks for the next index, but those of the rows that the batch met, is handed to that index's region.
pub record HandsCloses {D : Type 0} (d : Ghosts D) (g g' : Group) (disk disk' : D) (m : ℕ) : Type 0 where
  pub batch : Begun
  pub verifying : batch.phase ≡ Verifying
  pub parts : List (List CellData)
  pub rest : List (List (List CellData))
  pub kept : batch.batch.closes ≡ parts ∷ rest
  pub place : ℕ
  pub next : place + length batch.batch.closes ≡ batch.count
  pub index : IndexRegion
  pub region : Region
  pub cells : List CellData
  pub handed : IsHanded cells (laid (but batch.batch.met parts))
  pub step : IsIndexStep g g' m batch (record batch { batch = record batch.batch { closes = rest } }) place index region
  pub writes : WritesTo d index.region region disk disk' cells

-- Where the disk doesn't fail they are written, and the room of the rows that were met is given back.
pub record WroteCloses {D : Type 0} (d : Ghosts D) (g g' : Group) (disk disk' : D) (m : ℕ) : Type 0 where
  pub hands : HandsCloses d g g' disk disk' m
  pub written : HasWritten d hands.index.region hands.region disk disk' hands.cells
  pub room : UsesRoom hands.index.region hands.region (length (laid hands.parts)) (byte_count (laid hands.parts))

-- no index is left to be verified, and the batch is to end
pub record FinishesCloses (g g' : Group) (m : ℕ) : Type 0 where
  pub batch : Begun
  pub none : batch.batch.closes ≡ []
  pub verifying : batch.phase ≡ Verifying
  pub step : IsQuietStep g g' m batch (record batch { phase = Closing })

-- the marks of the batch at the place are closed
pub record HasClosed (g : Group) (m : ℕ) : Type 0 where
  pub at : StandsInPhase g m Verifying
  pub none : at.batch.batch.closes ≡ []

-- with the last index, or at once where there is none
pub record ClosesAll {D : Type 0} (d : Ghosts D) (g g' : Group) (disk disk' : D) (m : ℕ) : Type 0 where
  pub middle : Group
  pub before : ((middle ≡ g) × (disk' ≡ disk)) ⊎ WroteCloses d g middle disk disk' m
  pub last : FinishesCloses middle g' m

-- what `verify` does, by its answer
abbrev pub Verified : {D : Type 0} → Ghosts D → Group → Group → D → D → ℕ → Result Verifies Failed → Type 0
Verified d g g' disk disk' m (Ok verifies.More) = WroteCloses d g g' disk disk' m × HasCloses g' m
Verified d g g' disk disk' m (Ok verifies.Done) = ClosesAll d g g' disk disk' m
Verified d g g' disk disk' m (Err e) = HandsCloses d g g' disk disk' m

-- 5. The end

-- the batch at the place is let go, and nothing else changes
pub record LetsGo (g g' : Group) (m : ℕ) (x : Begun) : Type 0 where
  pub batch : slice_get g.batches.items m ≡ Some x
  pub batches : g'.batches.items ≡ remove g.batches.items m
  pub table : g'.table ≡ g.table
  pub rows : g'.rows ≡ g.rows
  pub indexes : g'.indexes ≡ g.indexes
  pub points : g'.points ≡ g.points
  pub last : g'.last ≡ g.last
  pub horizon : g'.horizon ≡ g.horizon

pub record GoesAway (g g' : Group) (m : ℕ) : Type 0 where
  pub batch : Begun
  pub goes : LetsGo g g' m batch

-- of the rows that it has for the receipt those are told that it met
pub record Ends (g g' : Group) (m : ℕ) (told : Told) : Type 0 where
  pub batch : Begun
  pub goes : LetsGo g g' m batch
  pub rows : length batch.receipt ≤ 4294967295 → told.rows ≡ length batch.receipt
  pub concurrent : told.concurrent ≡ flagged batch.batch.met batch.receipt

-- 6. Who comes first

-- the batch is earlier, and is still to write a row of the other
abbrev pub blocks : BatchData → BatchData → Bool
blocks earlier b = nat_lt earlier.stamp b.stamp && list_any (λ c. is_some (left_in earlier c.row)) b.changes

-- a batch of this stamp blocks the one at the place
pub record IsBlocked (g : Group) (m : ℕ) (s : ℕ) : Type 0 where
  pub batch : Begun
  pub is : slice_get g.batches.items m ≡ Some batch
  pub place : ℕ
  pub earlier : Begun
  pub earlier_is : slice_get g.batches.items place ≡ Some earlier
  pub stamp : earlier.batch.stamp ≡ s
  pub blocked : blocks earlier.batch batch.batch ≡ true

-- none does
pub record IsUnblocked (g : Group) (m : ℕ) : Type 0 where
  pub batch : Begun
  pub is : slice_get g.batches.items m ≡ Some batch
  pub free : (n : ℕ) (x : Begun) → slice_get g.batches.items n ≡ Some x → blocks x.batch batch.batch ≡ false

-- 7. In the words of the trail

-- the batch is this seat's
abbrev pub IsOfSeat : List Entry → ℕ → ℕ → ℕ → Type 0
IsOfSeat es t s seat = (y : Batch) → batch_of t s es ≡ Some y → y.seat ≡ seat

-- an earlier batch is still to write a row that this one is still to write
pub record WaitsFor (es : List Entry) (t s earlier : ℕ) : Type 0 where
  pub smaller : earlier < s
  pub own : Batch
  pub own_is : batch_of t s es ≡ Some own
  pub batch : Batch
  pub is : batch_of t earlier es ≡ Some batch
  pub row : List Value
  pub to_write : has (unwritten own) row ≡ true
  pub pending : has (unwritten batch) row ≡ true
