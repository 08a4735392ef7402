-- What contracts see of an open batch, and how it stands for what is known of one.
use Rattle.std.specs.Prelude.{◌≡◌, ℕ, ◌<◌, ◌+◌, Bool, true, ◌&&◌, not, List, [], ◌∷◌, length, map, get_or, Option, Some, None, is_some, if◌then◌else◌}
use Rattle.std.specs.List.{AllByRecursion, list_any}
use Rattle.px_cells.specs.CellData.{CellData}
use Rattle.px_cells.specs.Order.{ReadsSame}
use Rattle.px_cellbytes.specs.Reading.{IsWritten}
use Rattle.px_cellbytes.specs.Spelling.{all_bytes}
use Rattle.px_openbatches.specs.Pending.{HeldBatch, applied_if, flagged}
use Rattle.px_rows.specs.Spelled.{FitsTable}
use Rattle.px_tables.specs.declared.table.Table.{Table}
use Rattle.px_trail.specs.Batches.{change_of, has, is_distinct, rows_of}
use Rattle.px_values.specs.States.{RowState, Shape}
use Rattle.px_values.specs.declared.change.Change.{Change}
use Rattle.px_values.specs.declared.change.What.{What}
use Rattle.px_values.specs.declared.row.Value.{Value}

-- The cells that are still to be handed out, row by row: the marks and what closes them for each index that is left, and the
-- data cells until they are written; and for each change whether another batch was pending on its row.
pub record BatchData : Type 0 where
  pub stamp : ℕ
  pub changes : List Change
  pub met : List Bool
  pub marks : List (List (List CellData))
  pub puts : Option (List (List CellData))
  pub closes : List (List (List CellData))

-- a list as a region's log takes it, of which the same is read as of these cells
pub record IsHanded (cells kept : List CellData) : Type 0 where
  pub written : IsWritten cells
  pub reads : ReadsSame cells kept
  pub count : length cells ≡ length kept
  pub bytes : length (all_bytes cells) ≡ length (all_bytes kept)

-- The batch as its table knows it: the same stamp and changes, the same rows written and met, as many indexes marked and
-- verified, and of its cells what is left.
pub record IsHeldAs (b : BatchData) (h : HeldBatch) : Type 0 where
  pub stamp : h.stamp ≡ b.stamp
  pub changes : h.changes ≡ b.changes
  pub rows : map (λ x. x.row) h.cells ≡ rows_of b.changes
  pub distinct : is_distinct (rows_of b.changes) ≡ true
  pub flags : length b.met ≡ length (rows_of b.changes)
  pub met : (r : List Value) → has h.met r ≡ has (flagged b.met (rows_of b.changes)) r
  pub written : (r : List Value) → has h.written r ≡ (not (is_some b.puts) && has (rows_of b.changes) r)
  pub to_mark : h.done + length b.marks ≡ h.count
  pub to_verify : h.verified + length b.closes ≡ h.count
  pub marks : (k : ℕ) → k < length b.marks → get_or b.marks k [] ≡ map (λ x. get_or x.marks (h.done + k) []) h.cells
  pub closes : (k : ℕ) → k < length b.closes → get_or b.closes k [] ≡ map (λ x. get_or x.closes (h.verified + k) []) h.cells
  pub puts : (parts : List (List CellData)) → b.puts ≡ Some parts → parts ≡ map (λ x. x.puts) h.cells

-- Several open batches, in the order of their stamps.
abbrev pub AreHeldAs : List BatchData → List HeldBatch → Type 0
AreHeldAs [] [] = Unit {0}
AreHeldAs [] (h ∷ hs) = ⊥
AreHeldAs (b ∷ bs) [] = ⊥
AreHeldAs (b ∷ bs) (h ∷ hs) = IsHeldAs b h × AreHeldAs bs hs

-- a change that isn't written yet
abbrev pub left_in : BatchData → List Value → Option What
left_in b r = if is_some b.puts then change_of b.changes r else None

-- the state, then the pending changes of the row, one batch after another
abbrev pub pending_state : Shape → List Value → RowState → List BatchData → RowState
pending_state sh r o [] = o
pending_state sh r o (b ∷ bs) = pending_state sh r (applied_if sh r o (left_in b r)) bs

-- a batch is still to write the row
abbrev pub is_left_in : List BatchData → List Value → Bool
is_left_in bs r = list_any (λ b. is_some (left_in b r)) bs

-- each change is one that the table lets in
abbrev pub AllFit : Table → List Change → Type 0
AllFit t cs = AllByRecursion (λ c. FitsTable t c.row c.what) cs
