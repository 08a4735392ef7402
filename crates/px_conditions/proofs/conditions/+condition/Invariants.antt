use Rattle.std.proofs.Common.{◌≡◌, ◌+◌, ◌-◌, ◌*◌}
use Rattle.px_ast.specs.Rule.{many_at, separated, ◌▹◌}
use Rattle.px_ast.specs.Grammar as grammar
use Rattle.px_lex.specs.declared.kind.Kind.TheVariants as k
use Rattle.px_words.specs.Reading.{behind_first}
use Rattle.px_words.proofs.Turns.{with_front}
use Rattle.px_conditions.proofs.conditions.+condition.Given as goal

abbrev pub decreases-part : goal.decreases-part
decreases-part l = 10 * l.depth

abbrev pub decreases-negated : goal.decreases-negated
decreases-negated l = 10 * l.depth + 1

abbrev pub decreases-enclosed : goal.decreases-enclosed
decreases-enclosed l = 10 * l.depth + 8

abbrev pub decreases-put_part : goal.decreases-put_part
decreases-put_part l = 10 * l.depth + 1

abbrev pub decreases-put_next_part : goal.decreases-put_next_part
decreases-put_next_part l = 10 * l.depth + 2

abbrev pub decreases-parts_behind : goal.decreases-parts_behind
decreases-parts_behind l = 10 * l.depth + 3

abbrev pub decreases-put_conjunction : goal.decreases-put_conjunction
decreases-put_conjunction l = 10 * l.depth + 4

abbrev pub decreases-put_next_conjunction : goal.decreases-put_next_conjunction
decreases-put_next_conjunction l = 10 * l.depth + 5

abbrev pub decreases-conjunctions : goal.decreases-conjunctions
decreases-conjunctions l = 10 * l.depth + 6

abbrev pub decreases-disjunction : goal.decreases-disjunction
decreases-disjunction l = 10 * l.depth + 7

abbrev pub invariant-parts_behind-loop-turn : goal.invariant-parts_behind-loop-turn
invariant-parts_behind-loop-turn l = with_front l.found.items (many_at (k.And ▹ grammar.part l.depth) (l._turn-end - l._turn) l.tokens) ≡ behind_first k.And (grammar.part l.depth) l.fn.first l.fn.tokens

abbrev pub invariant-conjunctions-loop-turn : goal.invariant-conjunctions-loop-turn
invariant-conjunctions-loop-turn l = with_front l.found.items (many_at (k.Or ▹ grammar.conjunction (grammar.part l.depth)) (l._turn-end - l._turn) l.tokens) ≡ (separated k.Or (grammar.conjunction (grammar.part l.depth))).at l.fn.tokens
