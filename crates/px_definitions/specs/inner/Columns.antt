-- What stands behind a column of a table.
use Rattle.std.specs.Prelude.{if◌then◌else◌, List, [], ◌∷◌}
use Rattle.px_lex.specs.declared.kind.Kind.TheVariants as k
use Rattle.px_lex.specs.Lexemes.{Seen}
use Rattle.px_ast.specs.Rule.{sees, Outcome, Got, and_then, word}
use Rattle.px_ast.specs.Grammar.{column, constraint}
use Rattle.px_definitions.specs.declared.columns.Item.{Item}
use Rattle.px_definitions.specs.declared.columns.Item.TheVariants as items

abbrev pub a_column : List Seen → Outcome Item
a_column ts = and_then (column.at ts) (λ c rest. Got (items.Column c) rest)

abbrev pub a_constraint : List Seen → Outcome Item
a_constraint ts = and_then (constraint.at ts) (λ c rest. Got (items.Constraint c) rest)

abbrev pub behind_comma : List Seen → Outcome Item
behind_comma ts = if sees constraint.begins ts then a_constraint ts else a_column ts

abbrev pub item : List Seen → Outcome Item
item ts =
    if sees (k.Comma ∷ []) ts then and_then ((word k.Comma).at ts) (λ u rest. behind_comma rest)
    else (if sees constraint.begins ts then a_constraint ts else Got items.Nothing ts)
