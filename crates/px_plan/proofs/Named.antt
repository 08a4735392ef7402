-- The columns in OR, AND and NOT, by the parts as a list.
use Rattle.std.proofs.Common.{◌≡◌, ℕ, List, ◌++◌, refl, ap, ◌∙◌}
use Rattle.std.proofs.lemmas.List.{append-nil}
use Rattle.std.specs.List.{flat_map}
use Rattle.px_expr.specs.declared.bound.Bound.{Bound, Row_of-Bound, end_of-Bound, more_of-Bound, items-the_row-Bound, items_hidden-the_row-Bound-0, Or', And', Not'}
use Rattle.px_expr.specs.declared.bound.Bound.TheVariants as bounds
use Rattle.px_plan.specs.Naming.{columns_in, columns_in_all}

in_is : (n : _) (parts : Row_of-Bound n) → columns_in_all parts ≡ flat_map columns_in (items-the_row-Bound n parts)
in_is n end_of-Bound = refl
in_is n (more_of-Bound b rest) = ap (λ (cs : List ℕ). columns_in b ++ cs) (in_is _ rest)

abbrev row_of : Bound → (n : _) × Row_of-Bound n
row_of (Or' _ row) = (_, row)
row_of (And' _ row) = (_, row)
row_of (Not' _ row) = (_, row)
row_of _ = (_, end_of-Bound)

pub columns_or : (parts : List Bound) → columns_in (bounds.Or parts) ≡ flat_map columns_in parts
columns_or parts =
    let r = row_of (bounds.Or parts) in in_is r.0 r.1 ∙ ap (λ (bs : List Bound). flat_map columns_in bs) (items_hidden-the_row-Bound-0 parts)

pub columns_and : (parts : List Bound) → columns_in (bounds.And parts) ≡ flat_map columns_in parts
columns_and parts =
    let r = row_of (bounds.And parts) in in_is r.0 r.1 ∙ ap (λ (bs : List Bound). flat_map columns_in bs) (items_hidden-the_row-Bound-0 parts)

pub columns_not : (b : Bound) → columns_in (bounds.Not b) ≡ columns_in b
unfolding Rattle.px_expr.specs.declared.bound.Bound.TheBlock.hidden-the_row-Bound-1 denote.Hole.Carrier.hidden
columns_not b = append-nil (columns_in b)
