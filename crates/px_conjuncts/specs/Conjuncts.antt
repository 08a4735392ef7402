-- The conjuncts of a condition, and what one says of a column.
use Rattle.std.specs.Prelude.{ℕ, Bool, true, false, if◌then◌else◌, nat_eq, List, [], ◌∷◌, ◌++◌, Option, Some, None}
use Rattle.std.specs.List.{All}
use Rattle.px_values.specs.declared.row.Value.{Value}
use Rattle.px_values.specs.declared.row.Value.TheVariants.{Null}
use Rattle.px_ast.specs.declared.condition.Comparison.TheVariants as c
use Rattle.px_expr.specs.declared.bound.Term.TheVariants.{Column, Value as Given}
use Rattle.px_expr.specs.declared.bound.Test.{Test}
use Rattle.px_expr.specs.declared.bound.Test.TheVariants.{Compare, IsNull, Between}
use Rattle.px_expr.specs.declared.bound.Bound.{Bound, Or', And', Not', Row_of-Bound, end_of-Bound, more_of-Bound}
use Rattle.px_expr.specs.declared.bound.Bound.TheVariants as bounds
use Rattle.px_expr.specs.Holds.{Selects}
use Rattle.px_ranges.specs.Led.{can_bound}
use Rattle.px_ranges.specs.declared.leading.Edge.{Edge}
use Rattle.px_paths.specs.declared.path.PathColumn.{PathColumn}

-- the parts of the outermost ANDs
abbrev mutual
  pub conjuncts_of : Bound → List Bound
  conjuncts_of (And' shape parts) = conjuncts_in parts
  conjuncts_of (Or' shape parts) = Or' shape parts ∷ []
  conjuncts_of (Not' shape part) = Not' shape part ∷ []
  conjuncts_of (bounds.Test t) = bounds.Test t ∷ []

  pub conjuncts_in : {m : _} → Row_of-Bound m → List Bound
  conjuncts_in end_of-Bound = []
  conjuncts_in (more_of-Bound b rest) = conjuncts_of b ++ conjuncts_in rest

-- where no condition stands there is none
abbrev pub conjuncts_of_filter : Option Bound → List Bound
conjuncts_of_filter None = []
conjuncts_of_filter (Some b) = conjuncts_of b

abbrev pub all_true : List Value → List Bound → Type 0
all_true row conjuncts = All (λ b. Selects b row) conjuncts

-- ---- what a test says of a column

abbrev pub at_column : {A : Type 0} → PathColumn → ℕ → Option A → Option A
at_column p place found = if nat_eq place p.place then found else None

abbrev pub unless_null : Value → Option Value
unless_null Null = None
unless_null v = Some v

-- `column = literal`, the literal not NULL, and `column IS NULL`
abbrev pub equal_in : PathColumn → Test → Option Value
equal_in p (Compare c.Equal (Column place) (Given v)) = at_column p place (unless_null v)
equal_in p (IsNull (Column place) false) = at_column p place (Some Null)
equal_in p t = None

-- a value that can bound the column
abbrev pub edge : PathColumn → Bool → Value → Option Edge
edge p included v = if can_bound p.column.ty v then Some (record { value = v; included = included }) else None

-- the edge of a BETWEEN, of which the other one can bound the column too
abbrev pub edge_beside : PathColumn → Value → Value → Option Edge
edge_beside p other v = if can_bound p.column.ty other then edge p true v else None

-- `>` and `>=` with a literal, and BETWEEN two of them
abbrev pub lower_in : PathColumn → Test → Option Edge
lower_in p (Compare c.Greater (Column place) (Given v)) = at_column p place (edge p false v)
lower_in p (Compare c.GreaterEqual (Column place) (Given v)) = at_column p place (edge p true v)
lower_in p (Between (Column place) false (Given low) (Given high)) = at_column p place (edge_beside p high low)
lower_in p t = None

-- `<` and `<=` with a literal, and BETWEEN two of them
abbrev pub upper_in : PathColumn → Test → Option Edge
upper_in p (Compare c.Less (Column place) (Given v)) = at_column p place (edge p false v)
upper_in p (Compare c.LessEqual (Column place) (Given v)) = at_column p place (edge p true v)
upper_in p (Between (Column place) false (Given low) (Given high)) = at_column p place (edge_beside p low high)
upper_in p t = None

-- of a conjunct: only a test says so much
abbrev pub told_by : {A : Type 0} → (Test → Option A) → Bound → Option A
told_by f (bounds.Test t) = f t
told_by f (And' shape parts) = None
told_by f (Or' shape parts) = None
told_by f (Not' shape part) = None
