use Rattle.std.proofs.Common.{◌≡◌, ◌∷◌, [], true}
use Rattle.px_ast.specs.Rule.{sees, ◌▹◌}
use Rattle.px_ast.specs.Grammar as grammar
use Rattle.px_lex.specs.declared.kind.Kind.TheVariants as k
use Rattle.px_words.proofs.Turns.{goes_on}
use Rattle.px_words.proofs.literals.literal_list.Goals as goal

pub loop-turn-preserved : goal.loop-turn-preserved
loop-turn-preserved c =
    let seen : sees (k.Comma ∷ []) c.loop-turn.tokens ≡ true = cc in
    let more = goes_on (k.Comma ▹ grammar.literal) c.loop-turn.found.items c.in_ok-next_literal.field-0 c.loop-turn.tokens c.next_literal.new.tokens _ _ _ c.loop-turn-test.true seen c.in_ok-next_literal.ensures c.loop-turn.invariant in
    rw c.in_ok-push-2.ensures.items more
