-- The cells of a batch's phases, made from the rows before and after its changes.
use Rattle.std.specs.Prelude.{◌≡◌, ℕ, ◌⊎◌, List, [], ◌∷◌}
use Rattle.std.specs.List.{AllByRecursion}
use Rattle.px_cells.specs.CellData.{CellData}
use Rattle.px_cells.specs.Contents.{value_at}
use Rattle.px_cells.specs.Order.{IsCellList}
use Rattle.px_forms.specs.Indexes.{IndexForm}
use Rattle.px_indexrow.specs.Form.{FitsRowState, IsLongInIndex}
use Rattle.px_indexrow.specs.Lists.{closes_of, marks_of}
use Rattle.px_rows.specs.Keys.{row_key}
use Rattle.px_rows.specs.Spelled.{FitsTable, change_contents, row_spelling}
use Rattle.px_tables.specs.declared.index.Index.{Index}
use Rattle.px_tables.specs.declared.table.Table.{Table}
use Rattle.px_trail.specs.Trail.{table_shape}
use Rattle.px_values.specs.States.{apply}
use Rattle.px_values.specs.declared.change.Change.{Change}
use Rattle.px_phases.specs.declared.transition.Transition.{Transition}

-- 1. Rows before and after their changes

-- the table lets the change in, and it takes the row from one state to the other
pub record IsTransition (t : Table) (c : Change) (x : Transition) : Type 0 where
  pub fits : FitsTable t c.row c.what
  pub old : FitsRowState t x.old
  pub new : x.new ≡ apply (table_shape t) c.row x.old c.what

abbrev pub AreTransitions : Table → List Change → List Transition → Type 0
AreTransitions t [] [] = Unit {0}
AreTransitions t [] (x ∷ xs) = ⊥
AreTransitions t (c ∷ cs) [] = ⊥
AreTransitions t (c ∷ cs) (x ∷ xs) = IsTransition t c x × AreTransitions t cs xs

-- 2. The cells, row by row

-- the marks of each row in an index
abbrev pub mark_parts : IndexForm → ℕ → List Change → List Transition → List (List CellData)
mark_parts f s [] xs = []
mark_parts f s (c ∷ cs) [] = []
mark_parts f s (c ∷ cs) (x ∷ xs) = marks_of f c.row s x.old x.new ∷ mark_parts f s cs xs

-- what closes them
abbrev pub close_parts : IndexForm → ℕ → List Change → List Transition → List (List CellData)
close_parts f s [] xs = []
close_parts f s (c ∷ cs) [] = []
close_parts f s (c ∷ cs) (x ∷ xs) = closes_of f c.row s x.old x.new ∷ close_parts f s cs xs

-- the data cells of a change: a sorted list, all at the row's key, with what the change writes
pub record IsPut (t : Table) (s : ℕ) (c : Change) (cells : List CellData) : Type 0 where
  pub own : AllByRecursion (λ x. x.key ≡ row_key t c.row) cells
  pub list : IsCellList cells
  pub values : value_at cells ≡ change_contents (row_spelling t) c.row s c.what

abbrev pub ArePuts : Table → ℕ → List Change → List (List CellData) → Type 0
ArePuts t s [] [] = Unit {0}
ArePuts t s [] (p ∷ parts) = ⊥
ArePuts t s (c ∷ cs) [] = ⊥
ArePuts t s (c ∷ cs) (p ∷ parts) = IsPut t s c p × ArePuts t s cs parts

-- 3. Keys that are too long

-- the key of a row in the index, before its change or after it
abbrev pub HasLongIndexed : Table → Index → List Change → List Transition → Type 0
HasLongIndexed t i [] xs = ⊥
HasLongIndexed t i (c ∷ cs) [] = ⊥
HasLongIndexed t i (c ∷ cs) (x ∷ xs) = (IsLongInIndex t i c.row x.new ⊎ IsLongInIndex t i c.row x.old) ⊎ HasLongIndexed t i cs xs
