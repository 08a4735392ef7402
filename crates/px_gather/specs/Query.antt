-- What a query asks, and which path may answer it.
use Rattle.std.specs.Prelude.{ℕ, ◌≡◌, Bool, true, List, ◌∷◌, Option, Some}
use Rattle.px_values.specs.declared.row.Value.{Value}
use Rattle.px_values.specs.declared.row.Value.TheVariants.{Text}
use Rattle.px_tables.specs.declared.found.Found.{Found}
use Rattle.px_tables.specs.declared.table.Table.{Table}
use Rattle.px_trail.specs.Answers.{Asked}
use Rattle.px_calls.specs.declared.query.By.{By}
use Rattle.px_calls.specs.declared.query.Path.{Path}
use Rattle.px_calls.specs.declared.query.Point.{Point}
use Rattle.px_calls.specs.Looks.{is_on, key_by, key_less, shown_by}
use Rattle.px_calls.specs.Requires.{CanLook, FitsRow}

-- a table with its definition, which rows meet the condition, the named columns of a row, how many rows are enough, and of the definitions that are found
-- at a stamp: whether the path chosen from them would have to be joined back to the table, and else which path is taken
pub record Query : Type 0 where
  pub table : ℕ
  pub bound : Table
  pub meets : List Value → Bool
  pub named : List Value → List Value
  pub limit : Option ℕ
  pub joins : Found → ℕ → Bool
  pub takes : Found → ℕ → Option By

-- the path is the one that the query takes at the point, may be read there, has each row that meets the condition, and shows what the condition and the query
-- name
pub record IsPathFor (q : Query) (p : Point) (path : Path) : Type 0 where
  pub taken : q.takes p.found p.stamp ≡ Some path.by
  pub can : CanLook p path
  pub has_all : (row : List Value) → FitsRow p.found.table row → q.meets row ≡ true → is_on path (key_by p.found path.by row) ≡ true
  pub meets : (row : List Value) → q.meets (shown_by p.found path.by row) ≡ q.meets row
  pub named : (row : List Value) → q.named (shown_by p.found path.by row) ≡ q.named row

-- a row is told by its key and its named values
abbrev pub told_by : Query → Found → By → List Value → List Value
told_by q f by row = Text (key_by f by row) ∷ q.named row

-- what is asked in the order of these keys
abbrev pub asked : Query → Found → By → Asked
asked q f by = record { table = q.table; meets = q.meets; named = told_by q f by; path_key = key_by f by; before = λ a b. key_less (key_by f by a) (key_by f by b); limit = q.limit }
