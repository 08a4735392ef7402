-- The columns that a query names, and the indexes that hold them.
use Rattle.std.specs.Prelude.{ℕ, Bool, List, [], ◌∷◌, ◌++◌, map, Option, Some, None}
use Rattle.std.specs.List.{list_all}
use Rattle.px_expr.specs.declared.bound.Term.{Term}
use Rattle.px_expr.specs.declared.bound.Term.TheVariants.{Column, Value as Given}
use Rattle.px_expr.specs.declared.bound.Test.{Test}
use Rattle.px_expr.specs.declared.bound.Test.TheVariants.{Compare, IsNull, In, Between}
use Rattle.px_expr.specs.declared.bound.Bound.{Bound, Or', And', Not', Row_of-Bound, end_of-Bound, more_of-Bound}
use Rattle.px_expr.specs.declared.bound.Bound.TheVariants as bounds
use Rattle.px_tables.specs.declared.index.Index.{Index}
use Rattle.px_tables.specs.declared.table.Table.{Table}
use Rattle.px_bind.specs.declared.request.Query.{Query}
use Rattle.px_paths.specs.Paths.{is_held}

abbrev pub term_columns : Term → List ℕ
term_columns (Column place) = place ∷ []
term_columns (Given v) = []

abbrev pub test_columns : Test → List ℕ
test_columns (Compare how left right) = term_columns left ++ term_columns right
test_columns (IsNull term negated) = term_columns term
test_columns (In term negated vs) = term_columns term
test_columns (Between term negated low high) = term_columns term ++ (term_columns low ++ term_columns high)

-- the columns in a condition
abbrev mutual
  pub columns_in : Bound → List ℕ
  columns_in (Or' shape parts) = columns_in_all parts
  columns_in (And' shape parts) = columns_in_all parts
  columns_in (Not' shape part) = columns_in_all part
  columns_in (bounds.Test t) = test_columns t

  pub columns_in_all : {m : _} → Row_of-Bound m → List ℕ
  columns_in_all end_of-Bound = []
  columns_in_all (more_of-Bound b rest) = columns_in b ++ columns_in_all rest

abbrev pub filter_columns : Option Bound → List ℕ
filter_columns None = []
filter_columns (Some b) = columns_in b

-- what is shown, what the condition names, and the ORDER BY
abbrev pub columns_named : Query → List ℕ
columns_named q = q.shown ++ (filter_columns q.filter ++ map (λ p. p.column) q.order)

-- an index holds all these columns
abbrev pub holds_all : Table → Index → List ℕ → Bool
holds_all t i columns = list_all (is_held t i) columns
