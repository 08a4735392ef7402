use Rattle.std.proofs.Common.{◌≡◌, ◌-◌}
use Rattle.px_ast.specs.Rule.{many_at, separated, ◌▹◌}
use Rattle.px_ast.specs.Grammar as grammar
use Rattle.px_lex.specs.declared.kind.Kind.TheVariants as k
use Rattle.px_words.proofs.Turns.{with_front}
use Rattle.px_definitions.proofs.columns.keypart_list.Given as goal

abbrev pub invariant-loop-turn : goal.invariant-loop-turn
invariant-loop-turn l = with_front l.found.items (many_at (k.Comma ▹ grammar.keypart) (l._turn-end - l._turn) l.tokens) ≡ (separated k.Comma grammar.keypart).at l.fn.tokens
