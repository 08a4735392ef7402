-- Split points that are values of the first key column.
use Rattle.std.proofs.Common.{◌≡◌, List, [], ◌∷◌, Option, Some, All}
use Rattle.std.proofs.lemmas.List.Elements.{All-from_recursion}
use Rattle.std.specs.List.{AllByRecursion}
use Rattle.px_ast.specs.declared.literal.Literal.{Literal}
use Rattle.px_keys.specs.declared.parts.KeyColumn.{KeyColumn}
use Rattle.px_values.specs.declared.row.Value.{Value}
use Rattle.px_resolve.specs.Literals.{literal_faults, value_of_literal}
use Rattle.px_create.specs.Tables.{point_faults, points_faults}
use Rattle.px_resolve.proofs.Walks.{no_front, no_rest}

typed : (column : KeyColumn) (before : Option Value) (ls : List Literal) → points_faults column before ls ≡ [] → AllByRecursion (λ l. literal_faults column.ty l ≡ []) ls
typed column before [] none = tt
typed column before (l ∷ ls) none = (
  no_front (literal_faults column.ty l) _ (no_front (point_faults column before l) _ none),
  typed column (Some (value_of_literal l.constant)) ls (no_rest (point_faults column before l) _ none),
)

pub points_typed : (column : KeyColumn) (before : Option Value) (ls : List Literal) → points_faults column before ls ≡ [] → All (λ l. literal_faults column.ty l ≡ []) ls
points_typed column before ls none = All-from_recursion (λ l. literal_faults column.ty l ≡ []) ls (typed column before ls none)
