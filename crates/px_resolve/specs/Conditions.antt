-- What is wrong with a condition, and the same condition over places and values.
use Rattle.std.specs.Prelude.{ℕ, List, [], ◌∷◌, ◌++◌, map}
use Rattle.std.specs.List.{flat_map}
use Rattle.std.specs.Option.{option_map_or}
use Rattle.px_values.specs.Order.{class_of}
use Rattle.px_values.specs.Types.{type_class}
use Rattle.px_ast.specs.declared.condition.Operand.{Operand}
use Rattle.px_ast.specs.declared.condition.Operand.TheVariants as operands
use Rattle.px_ast.specs.declared.condition.Predicate.{Predicate}
use Rattle.px_ast.specs.declared.condition.Predicate.TheVariants as predicates
use Rattle.px_ast.specs.declared.condition.Condition.{Condition, Or', And', Not', Row_of-Condition, end_of-Condition, more_of-Condition}
use Rattle.px_ast.specs.declared.condition.Condition.TheVariants as conditions
use Rattle.px_ast.specs.declared.literal.Literal.{Literal}
use Rattle.px_expr.specs.declared.bound.Term.{Term}
use Rattle.px_expr.specs.declared.bound.Term.TheVariants as terms
use Rattle.px_expr.specs.declared.bound.Test.{Test}
use Rattle.px_expr.specs.declared.bound.Test.TheVariants as tests
use Rattle.px_expr.specs.declared.bound.Bound.{Bound}
use Rattle.px_expr.specs.declared.bound.Bound.TheVariants as bounds
use Rattle.px_tables.specs.declared.table.TableColumn.{TableColumn}
use Rattle.px_resolve.specs.Names.{names_of, place_of_name, column_of, name_faults}
use Rattle.px_resolve.specs.Literals.{value_of_literal, differ, is_bad_text, mismatch_if, range_if}
use Rattle.px_resolve.specs.declared.conditions.Check.{Check}
use Rattle.px_resolve.specs.declared.conditions.Check.TheVariants.{Names, Operands}
use Rattle.px_resolve.specs.declared.fault.BindFault.{BindFault}

-- ---- names

abbrev pub operand_name_faults : List TableColumn → Operand → List BindFault
operand_name_faults columns (operands.Column place name) = name_faults (names_of columns) [] name
operand_name_faults columns (operands.Literal literal) = []

-- the names of a predicate that no column has, in text order
abbrev pub predicate_name_faults : List TableColumn → Predicate → List BindFault
predicate_name_faults columns (predicates.Compare how left right) = operand_name_faults columns left ++ operand_name_faults columns right
predicate_name_faults columns (predicates.IsNull operand negated) = operand_name_faults columns operand
predicate_name_faults columns (predicates.In operand negated literals) = operand_name_faults columns operand
predicate_name_faults columns (predicates.Between operand negated low high) =
    operand_name_faults columns operand ++ (operand_name_faults columns low ++ operand_name_faults columns high)

-- ---- classes

-- the class of an operand: that of its column's type, or of its literal
abbrev pub class_in : List TableColumn → Operand → ℕ
class_in columns (operands.Column place name) = option_map_or (λ c. type_class c.column_type) (column_of columns name) 0
class_in columns (operands.Literal literal) = class_of (value_of_literal literal.constant)

abbrev pub place_in : Operand → ℕ
place_in (operands.Column place name) = place
place_in (operands.Literal literal) = literal.place

abbrev pub bad_text : Literal → List BindFault
bad_text literal = range_if (is_bad_text (value_of_literal literal.constant)) literal.place

-- an operand whose class matters not
abbrev pub alone : Operand → List BindFault
alone (operands.Column place name) = []
alone (operands.Literal literal) = bad_text literal

-- a literal that is compared with an operand of this class
abbrev pub literal_against : ℕ → Literal → List BindFault
literal_against class literal = mismatch_if (differ class (class_of (value_of_literal literal.constant))) literal.place ++ bad_text literal

-- an operand that is compared with one of this class
abbrev pub against : List TableColumn → ℕ → Operand → List BindFault
against columns class operand = mismatch_if (differ class (class_in columns operand)) (place_in operand) ++ alone operand

-- the faults of a predicate in text order: each operand behind the first is compared with the first
abbrev pub predicate_operand_faults : List TableColumn → Predicate → List BindFault
predicate_operand_faults columns (predicates.Compare how left right) = alone left ++ against columns (class_in columns left) right
predicate_operand_faults columns (predicates.IsNull operand negated) = alone operand
predicate_operand_faults columns (predicates.In operand negated literals) = alone operand ++ flat_map (literal_against (class_in columns operand)) literals
predicate_operand_faults columns (predicates.Between operand negated low high) =
    alone operand ++ (against columns (class_in columns operand) low ++ against columns (class_in columns operand) high)

-- ---- conditions

abbrev pub predicate_faults : Check → List TableColumn → Predicate → List BindFault
predicate_faults Names columns p = predicate_name_faults columns p
predicate_faults Operands columns p = predicate_operand_faults columns p

-- the faults of the predicates of a condition, in text order
abbrev mutual
  pub condition_faults : Check → List TableColumn → Condition → List BindFault
  condition_faults check columns (Or' shape parts) = faults_in_row check columns parts
  condition_faults check columns (And' shape parts) = faults_in_row check columns parts
  condition_faults check columns (Not' shape part) = faults_in_row check columns part
  condition_faults check columns (conditions.Predicate p) = predicate_faults check columns p

  pub faults_in_row : {m : _} → Check → List TableColumn → Row_of-Condition m → List BindFault
  faults_in_row check columns end_of-Condition = []
  faults_in_row check columns (more_of-Condition c rest) = condition_faults check columns c ++ faults_in_row check columns rest

-- ---- the same condition over places and values

abbrev pub term_of : List TableColumn → Operand → Term
term_of columns (operands.Column place name) = terms.Column (place_of_name (names_of columns) name)
term_of columns (operands.Literal literal) = terms.Value (value_of_literal literal.constant)

abbrev pub test_over : List TableColumn → Predicate → Test
test_over columns (predicates.Compare how left right) = tests.Compare how (term_of columns left) (term_of columns right)
test_over columns (predicates.IsNull operand negated) = tests.IsNull (term_of columns operand) negated
test_over columns (predicates.In operand negated literals) = tests.In (term_of columns operand) negated (map (λ l. value_of_literal l.constant) literals)
test_over columns (predicates.Between operand negated low high) = tests.Between (term_of columns operand) negated (term_of columns low) (term_of columns high)

-- the one part of a NOT
abbrev pub only : List Bound → Bound
only [] = bounds.Or []
only (b ∷ others) = b

abbrev mutual
  pub bound_over : List TableColumn → Condition → Bound
  bound_over columns (Or' shape parts) = bounds.Or (bounds_over columns parts)
  bound_over columns (And' shape parts) = bounds.And (bounds_over columns parts)
  bound_over columns (Not' shape part) = bounds.Not (only (bounds_over columns part))
  bound_over columns (conditions.Predicate p) = bounds.Test (test_over columns p)

  pub bounds_over : {m : _} → List TableColumn → Row_of-Condition m → List Bound
  bounds_over columns end_of-Condition = []
  bounds_over columns (more_of-Condition c rest) = bound_over columns c ∷ bounds_over columns rest
