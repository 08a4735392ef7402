use Rattle.std.proofs.Common.{◌≡◌, ◌-◌}
use Rattle.px_ast.specs.Grammar as grammar
use Rattle.px_definitions.proofs.ColumnTurns.{with_columns, list_at}
use Rattle.px_definitions.proofs.columns.columns.Given as goal

abbrev pub invariant-loop-turn : goal.invariant-loop-turn
invariant-loop-turn l = with_columns l.found.items (list_at (l._turn-end - l._turn) l.tokens) ≡ grammar.columns.at l.fn.tokens
