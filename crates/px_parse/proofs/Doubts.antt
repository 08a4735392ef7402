-- Where no column is in doubt, none forbids NULL.
use Rattle.std.proofs.Common.{◌≡◌, Bool, false, not, ◌&&◌, List, [], ◌∷◌, Option, refl, arith}
use Rattle.std.specs.List.{list_any}
use Rattle.px_ast.specs.declared.definition.Column.{Column}
use Rattle.px_ast.specs.declared.definition.KeyConstraint.{KeyConstraint}
use Rattle.px_parse.specs.Nullness.{is_in_doubt, is_key}

abbrev forbids : Option KeyConstraint → Column → Bool
forbids constraint column = column.not_null && not (is_key constraint column)

pub none_forbids : (constraint : Option KeyConstraint) (columns : List Column) → list_any is_in_doubt columns ≡ false → list_any (forbids constraint) columns ≡ false
none_forbids constraint [] h = refl
none_forbids constraint (x ∷ xs) h =
    let rest = none_forbids constraint xs (grind arith) in
    grind arith
