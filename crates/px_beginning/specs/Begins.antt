-- A batch that begins: what it reads, and what it keeps.
use Rattle.std.specs.Prelude.{◌≡◌, ℕ, ◌≤◌, ◌⊎◌, List, length, map}
use Rattle.std.specs.List.{AllByRecursion}
use Rattle.px_cells.specs.CellData.{CellData}
use Rattle.px_group.specs.Group.{batches_of}
use Rattle.px_group.specs.declared.group.Group.{Group}
use Rattle.px_openbatches.specs.Made.{RowCells}
use Rattle.px_openbatches.specs.Pending.{HeldBatch, held_begun}
use Rattle.px_phases.specs.Batch.{BatchData, is_left_in}
use Rattle.px_phases.specs.Begun.{AreFrom, made_rows, prepared_batch}
use Rattle.px_phases.specs.Phases.{ArePuts, AreTransitions, HasLongIndexed}
use Rattle.px_phases.specs.declared.transition.Transition.{Transition}
use Rattle.px_region.specs.Region.{read_of}
use Rattle.px_rows.specs.Keys.{row_key}
use Rattle.px_trail.specs.Batches.{rows_of}
use Rattle.px_values.specs.Limits.{most_key}
use Rattle.px_values.specs.States.{RowState}
use Rattle.px_values.specs.declared.change.Change.{Change}
use Rattle.px_values.specs.declared.row.Value.{Value}
use Rattle.px_beginning.specs.Faults.{HasLongIn, HasLongRow}
use Rattle.px_beginning.specs.Reads.{index_forms, old_in}

-- 1. What is read

-- the state of a row that a batch counts on: what the data cells spell, and all that is pending after it
abbrev pub old_state : Group → List Value → RowState
old_state g r = old_in g.table (read_of g.rows) g.batches.items r

-- each row goes from the state that the batch counts on to the one after its change
pub record AreRead (g : Group) (cs : List Change) (xs : List Transition) : Type 0 where
  pub are : AreTransitions g.table cs xs
  pub from : AreFrom (old_state g) cs xs

-- 2. What is made

-- what is made of the rows before the changes and after them: the batch keeps their cells for all indexes and for the rows, and knows on
-- which rows another is pending
pub record IsMadeOf (g : Group) (s : ℕ) (cs : List Change) (xs : List Transition) (b : BatchData) : Type 0 where
  pub parts : List (List CellData)
  pub puts : ArePuts g.table s cs parts
  pub is : b ≡ prepared_batch (index_forms g.table g.indexes.items) s cs xs parts (map (is_left_in (batches_of g)) (rows_of cs))
  pub short : AllByRecursion (λ x. HasLongIndexed g.table x.index cs xs → ⊥) g.indexes.items

-- the batch of these changes, as it begins: it is made of what is read, and no key is too long
pub record IsBatchOf (g : Group) (s : ℕ) (cs : List Change) (b : BatchData) : Type 0 where
  pub transitions : List Transition
  pub read : AreRead g cs transitions
  pub made : IsMadeOf g s cs transitions b
  pub short : AllByRecursion (λ c. length (row_key g.table c.row) ≤ most_key) cs

-- its cells, row by row
abbrev pub rows_made : (g : Group) (s : ℕ) (cs : List Change) (b : BatchData) → IsBatchOf g s cs b → List RowCells
rows_made g s cs b p = made_rows (index_forms g.table g.indexes.items) s cs p.transitions p.made.parts

-- the open batches after it has begun
abbrev pub held_with_begun : (g : Group) (s : ℕ) (cs : List Change) (b : BatchData) → IsBatchOf g s cs b → List HeldBatch → List HeldBatch
held_with_begun g s cs b p hs = held_begun s cs (length g.indexes.items) (rows_made g s cs b p) hs

-- 3. Keys that are too long

-- the rows before the changes and after them, of which one has a key that is too long in an index
pub record HasLongState (g : Group) (cs : List Change) : Type 0 where
  pub transitions : List Transition
  pub read : AreRead g cs transitions
  pub long : HasLongIn g.table g.indexes.items cs transitions

-- a key that the changes need is too long: that of a row, or one in an index
abbrev pub NeedsLongKey : Group → List Change → Type 0
NeedsLongKey g cs = HasLongRow g.table cs ⊎ HasLongState g cs
