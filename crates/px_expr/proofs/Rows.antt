-- The truth of OR, AND and NOT, by that of their parts as a list.
use Rattle.std.proofs.Common.{◌≡◌, List, map, refl, ap, ◌∙◌}
use Rattle.px_values.specs.declared.row.Value.{Value}
use Rattle.px_expr.specs.Holds.{truth_of, any_of, all_of}
use Rattle.px_expr.specs.Truth.{some_of, each_of, opposite, ◌and◌, ◌or◌}
use Rattle.px_expr.proofs.Truths.{and_true}
use Rattle.px_expr.specs.declared.bound.Truth.{Truth}
use Rattle.px_expr.specs.declared.bound.Bound.{Bound, Row_of-Bound, end_of-Bound, more_of-Bound, items-the_row-Bound, items_hidden-the_row-Bound-0, Or', And', Not'}
use Rattle.px_expr.specs.declared.bound.Bound.TheVariants as bounds

any_is : (row : List Value) (n : _) (parts : Row_of-Bound n) → any_of row parts ≡ some_of (map (truth_of row) (items-the_row-Bound n parts))
any_is row n end_of-Bound = refl
any_is row n (more_of-Bound b rest) = ap (λ (t : Truth). truth_of row b or t) (any_is row _ rest)

all_is : (row : List Value) (n : _) (parts : Row_of-Bound n) → all_of row parts ≡ each_of (map (truth_of row) (items-the_row-Bound n parts))
all_is row n end_of-Bound = refl
all_is row n (more_of-Bound b rest) = ap (λ (t : Truth). truth_of row b and t) (all_is row _ rest)

abbrev row_of : Bound → (n : _) × Row_of-Bound n
row_of (Or' _ row) = (_, row)
row_of (And' _ row) = (_, row)
row_of (Not' _ row) = (_, row)
row_of _ = (_, end_of-Bound)

pub truth_or : (row : List Value) (parts : List Bound) → truth_of row (bounds.Or parts) ≡ some_of (map (truth_of row) parts)
truth_or row parts =
    let r = row_of (bounds.Or parts) in any_is row r.0 r.1 ∙ ap (λ (bs : List Bound). some_of (map (truth_of row) bs)) (items_hidden-the_row-Bound-0 parts)

pub truth_and : (row : List Value) (parts : List Bound) → truth_of row (bounds.And parts) ≡ each_of (map (truth_of row) parts)
truth_and row parts =
    let r = row_of (bounds.And parts) in all_is row r.0 r.1 ∙ ap (λ (bs : List Bound). each_of (map (truth_of row) bs)) (items_hidden-the_row-Bound-0 parts)

pub truth_not : (row : List Value) (b : Bound) → truth_of row (bounds.Not b) ≡ opposite (truth_of row b)
unfolding Rattle.px_expr.specs.declared.bound.Bound.TheBlock.hidden-the_row-Bound-1 denote.Hole.Carrier.hidden
truth_not row b = ap opposite (and_true (truth_of row b))
