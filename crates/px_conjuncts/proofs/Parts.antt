-- The conjuncts of an AND, by its parts as a list.
use Rattle.std.proofs.Common.{◌≡◌, List, ◌++◌, refl, ap, ◌∙◌}
use Rattle.std.specs.List.{flat_map}
use Rattle.px_expr.specs.declared.bound.Bound.{Bound, Row_of-Bound, end_of-Bound, more_of-Bound, items-the_row-Bound, items_hidden-the_row-Bound-0, Or', And', Not'}
use Rattle.px_expr.specs.declared.bound.Bound.TheVariants as bounds
use Rattle.px_conjuncts.specs.Conjuncts.{conjuncts_of, conjuncts_in}

in_is : (n : _) (parts : Row_of-Bound n) → conjuncts_in parts ≡ flat_map conjuncts_of (items-the_row-Bound n parts)
in_is n end_of-Bound = refl
in_is n (more_of-Bound b rest) = ap (λ (cs : List Bound). conjuncts_of b ++ cs) (in_is _ rest)

abbrev row_of : Bound → (n : _) × Row_of-Bound n
row_of (Or' _ row) = (_, row)
row_of (And' _ row) = (_, row)
row_of (Not' _ row) = (_, row)
row_of _ = (_, end_of-Bound)

pub conjuncts_and : (parts : List Bound) → conjuncts_of (bounds.And parts) ≡ flat_map conjuncts_of parts
conjuncts_and parts =
    let r = row_of (bounds.And parts) in in_is r.0 r.1 ∙ ap (λ (bs : List Bound). flat_map conjuncts_of bs) (items_hidden-the_row-Bound-0 parts)
