-- What a condition says of a row.
use Rattle.std.specs.Prelude.{◌≡◌, Bool, true, false, List, map, get_or}
use Rattle.std.specs.declared.cmp.Ordering.{Ordering}
use Rattle.std.specs.declared.cmp.Ordering.TheVariants as o
use Rattle.px_ast.specs.declared.condition.Comparison.{Comparison}
use Rattle.px_ast.specs.declared.condition.Comparison.TheVariants as c
use Rattle.px_values.specs.Order.{value_order}
use Rattle.px_values.specs.declared.row.Value as values
use Rattle.px_values.specs.declared.row.Value.TheVariants.{Null}
use Rattle.px_expr.specs.Truth.{known_truth, opposite, negated_if, ◌and◌, ◌or◌, some_of}
use Rattle.px_expr.specs.declared.bound.Truth.{Truth}
use Rattle.px_expr.specs.declared.bound.Truth.TheVariants as truths
use Rattle.px_expr.specs.declared.bound.Term.{Term}
use Rattle.px_expr.specs.declared.bound.Term.TheVariants as terms
use Rattle.px_expr.specs.declared.bound.Test.{Test}
use Rattle.px_expr.specs.declared.bound.Test.TheVariants as tests
use Rattle.px_expr.specs.declared.bound.Bound.{Bound, Or', And', Not', Row_of-Bound, end_of-Bound, more_of-Bound}
use Rattle.px_expr.specs.declared.bound.Bound.TheVariants as bounds

-- the order of two values meets a comparison
abbrev pub meets : Comparison → Ordering → Bool
meets c.Equal o.Equal = true
meets c.NotEqual o.Less = true
meets c.NotEqual o.Greater = true
meets c.Less o.Less = true
meets c.LessEqual o.Less = true
meets c.LessEqual o.Equal = true
meets c.Greater o.Greater = true
meets c.GreaterEqual o.Greater = true
meets c.GreaterEqual o.Equal = true
meets how order = false

-- two values compared: unknown where one is NULL
abbrev pub compared_values : Comparison → values.Value → values.Value → Truth
compared_values how Null b = truths.Unknown
compared_values how a Null = truths.Unknown
compared_values how a b = known_truth (meets how (value_order a b))

abbrev pub null_test : values.Value → Truth
null_test Null = truths.True
null_test v = truths.False

-- the value of a term in a row
abbrev pub term_value : List values.Value → Term → values.Value
term_value row (terms.Column place) = get_or row place Null
term_value row (terms.Value v) = v

-- IN is an OR of equalities, and BETWEEN an AND of two comparisons
abbrev pub test_of : List values.Value → Test → Truth
test_of row (tests.Compare how left right) = compared_values how (term_value row left) (term_value row right)
test_of row (tests.IsNull term negated) = negated_if negated (null_test (term_value row term))
test_of row (tests.In term negated vs) = negated_if negated (some_of (map (compared_values c.Equal (term_value row term)) vs))
test_of row (tests.Between term negated low high) =
    negated_if negated (compared_values c.GreaterEqual (term_value row term) (term_value row low) and compared_values c.LessEqual (term_value row term) (term_value row high))

-- the truth of a condition over a row
abbrev mutual
  pub truth_of : List values.Value → Bound → Truth
  truth_of row (Or' shape parts) = any_of row parts
  truth_of row (And' shape parts) = all_of row parts
  truth_of row (Not' shape b) = opposite (all_of row b)
  truth_of row (bounds.Test t) = test_of row t

  pub any_of : {m : _} → List values.Value → Row_of-Bound m → Truth
  any_of row end_of-Bound = truths.False
  any_of row (more_of-Bound b rest) = truth_of row b or any_of row rest

  pub all_of : {m : _} → List values.Value → Row_of-Bound m → Truth
  all_of row end_of-Bound = truths.True
  all_of row (more_of-Bound b rest) = truth_of row b and all_of row rest

-- a row is selected where the condition is true
abbrev pub Selects : Bound → List values.Value → Type 0
Selects b row = truth_of row b ≡ truths.True
