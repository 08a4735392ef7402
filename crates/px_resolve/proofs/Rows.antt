-- The faults of OR, AND and NOT, and the same condition over places, by the parts as a list.
use Rattle.std.proofs.Common.{◌≡◌, List, ◌∷◌, ◌++◌, map, refl, ap, ◌∙◌}
use Rattle.std.proofs.lemmas.List.{append-nil}
use Rattle.std.specs.List.{flat_map}
use Rattle.px_ast.specs.declared.condition.Condition.{Condition, Row_of-Condition, end_of-Condition, more_of-Condition, items-the_row-Condition, items_hidden-the_row-Condition-0, Or', And', Not'}
use Rattle.px_ast.specs.declared.condition.Condition.TheVariants as conditions
use Rattle.px_expr.specs.declared.bound.Bound.{Bound}
use Rattle.px_expr.specs.declared.bound.Bound.TheVariants as bounds
use Rattle.px_tables.specs.declared.table.TableColumn.{TableColumn}
use Rattle.px_resolve.specs.Conditions.{condition_faults, faults_in_row, bound_over, bounds_over}
use Rattle.px_resolve.specs.declared.conditions.Check.{Check}
use Rattle.px_resolve.specs.declared.fault.BindFault.{BindFault}

abbrev row_of : Condition → (n : _) × Row_of-Condition n
row_of (Or' _ row) = (_, row)
row_of (And' _ row) = (_, row)
row_of (Not' _ row) = (_, row)
row_of _ = (_, end_of-Condition)

faults_are : (check : Check) (columns : List TableColumn) (n : _) (parts : Row_of-Condition n) → faults_in_row check columns parts ≡ flat_map (condition_faults check columns) (items-the_row-Condition n parts)
faults_are check columns n end_of-Condition = refl
faults_are check columns n (more_of-Condition c rest) = ap (λ (l : List BindFault). condition_faults check columns c ++ l) (faults_are check columns _ rest)

pub faults_or : (check : Check) (columns : List TableColumn) (parts : List Condition) → condition_faults check columns (conditions.Or parts) ≡ flat_map (condition_faults check columns) parts
faults_or check columns parts =
    let r = row_of (conditions.Or parts) in
    faults_are check columns r.0 r.1 ∙ ap (λ (cs : List Condition). flat_map (condition_faults check columns) cs) (items_hidden-the_row-Condition-0 parts)

pub faults_and : (check : Check) (columns : List TableColumn) (parts : List Condition) → condition_faults check columns (conditions.And parts) ≡ flat_map (condition_faults check columns) parts
faults_and check columns parts =
    let r = row_of (conditions.And parts) in
    faults_are check columns r.0 r.1 ∙ ap (λ (cs : List Condition). flat_map (condition_faults check columns) cs) (items_hidden-the_row-Condition-0 parts)

pub faults_not : (check : Check) (columns : List TableColumn) (c : Condition) → condition_faults check columns (conditions.Not c) ≡ condition_faults check columns c
unfolding Rattle.px_ast.specs.declared.condition.Condition.TheBlock.hidden-the_row-Condition-1 denote.Hole.Carrier.hidden
faults_not check columns c = append-nil (condition_faults check columns c)

bounds_are : (columns : List TableColumn) (n : _) (parts : Row_of-Condition n) → bounds_over columns parts ≡ map (bound_over columns) (items-the_row-Condition n parts)
bounds_are columns n end_of-Condition = refl
bounds_are columns n (more_of-Condition c rest) = ap (λ (l : List Bound). bound_over columns c ∷ l) (bounds_are columns _ rest)

pub bound_or : (columns : List TableColumn) (parts : List Condition) → bound_over columns (conditions.Or parts) ≡ bounds.Or (map (bound_over columns) parts)
bound_or columns parts =
    let r = row_of (conditions.Or parts) in
    ap bounds.Or (bounds_are columns r.0 r.1 ∙ ap (λ (cs : List Condition). map (bound_over columns) cs) (items_hidden-the_row-Condition-0 parts))

pub bound_and : (columns : List TableColumn) (parts : List Condition) → bound_over columns (conditions.And parts) ≡ bounds.And (map (bound_over columns) parts)
bound_and columns parts =
    let r = row_of (conditions.And parts) in
    ap bounds.And (bounds_are columns r.0 r.1 ∙ ap (λ (cs : List Condition). map (bound_over columns) cs) (items_hidden-the_row-Condition-0 parts))

pub bound_not : (columns : List TableColumn) (c : Condition) → bound_over columns (conditions.Not c) ≡ bounds.Not (bound_over columns c)
unfolding Rattle.px_ast.specs.declared.condition.Condition.TheBlock.hidden-the_row-Condition-1 denote.Hole.Carrier.hidden
bound_not columns c = refl
