use Rattle.std.proofs.Common.{◌≡◌, suc, ◌-◌, ◌∷◌, [], true, false, Err, rules, arith}
use Rattle.px_ast.specs.Rule.{sees, ◌▹◌}
use Rattle.px_ast.specs.Grammar as grammar
use Rattle.px_lex.specs.declared.kind.Kind.TheVariants as k
use Rattle.px_ast.specs.declared.condition.Condition.TheVariants as conditions
use Rattle.px_conditions.proofs.Parts.{enclosed_part, not_part, plain_part}
use Rattle.px_words.proofs.Turns.{goes_on, ends, fails}
use Rattle.px_conditions.proofs.conditions.+condition.Goals as goal

pub parts_behind-loop-turn-preserved : goal.parts_behind-loop-turn-preserved
parts_behind-loop-turn-preserved t c =
    let seen : sees (k.And ∷ []) c.loop-turn.tokens ≡ true = cc in
    let put = c.in_ok-put_next_part.ensures in
    let more = goes_on (k.And ▹ grammar.part c.args.depth) c.loop-turn.found.items put.0 c.loop-turn.tokens c.put_next_part.new.tokens _ _ _ c.loop-turn-test.true seen put.2 c.loop-turn.invariant in
    rw put.1 more

pub conjunctions-loop-turn-preserved : goal.conjunctions-loop-turn-preserved
conjunctions-loop-turn-preserved t c =
    let seen : sees (k.Or ∷ []) c.loop-turn.tokens ≡ true = cc in
    let put = c.in_ok-put_next_conjunction.ensures in
    let more = goes_on (k.Or ▹ grammar.conjunction (grammar.part c.args.depth)) c.loop-turn.found.items put.0 c.loop-turn.tokens c.put_next_conjunction.new.tokens _ _ _ c.loop-turn-test.true seen put.2 c.loop-turn.invariant in
    rw put.1 more

pub parts_behind-returns-then-not-sees : goal.parts_behind-returns-then-not-sees
parts_behind-returns-then-not-sees t c =
    let unseen : sees (k.And ∷ []) c.loop-turn.tokens ≡ false = cc in
    rw c.of.ensures (ends (k.And ▹ grammar.part c.args.depth) c.loop-turn.found.items c.loop-turn.tokens _ _ _ c.loop-turn-test.true unseen c.loop-turn.invariant)

pub parts_behind-returns-in_err-put_next_part : goal.parts_behind-returns-in_err-put_next_part
parts_behind-returns-in_err-put_next_part t c =
    let seen : sees (k.And ∷ []) c.loop-turn.tokens ≡ true = cc in
    let is : c.from_residual-in_err-put_next_part.result ≡ Err c.in_err-put_next_part.field-0.0 = search rules in
    rw is (fails (k.And ▹ grammar.part c.args.depth) c.loop-turn.found.items c.loop-turn.tokens c.put_next_part.new.tokens _ _ _ c.in_err-put_next_part.field-0.0 c.loop-turn-test.true seen c.in_err-put_next_part.ensures c.loop-turn.invariant)

pub conjunctions-returns-then-not-sees : goal.conjunctions-returns-then-not-sees
conjunctions-returns-then-not-sees t c =
    let unseen : sees (k.Or ∷ []) c.loop-turn.tokens ≡ false = cc in
    rw c.of.ensures (ends (k.Or ▹ grammar.conjunction (grammar.part c.args.depth)) c.loop-turn.found.items c.loop-turn.tokens _ _ _ c.loop-turn-test.true unseen c.loop-turn.invariant)

pub conjunctions-returns-in_err-put_next_conjunction : goal.conjunctions-returns-in_err-put_next_conjunction
conjunctions-returns-in_err-put_next_conjunction t c =
    let seen : sees (k.Or ∷ []) c.loop-turn.tokens ≡ true = cc in
    let is : c.from_residual-in_err-put_next_conjunction.result ≡ Err c.in_err-put_next_conjunction.field-0.0 = search rules in
    rw is (fails (k.Or ▹ grammar.conjunction (grammar.part c.args.depth)) c.loop-turn.found.items c.loop-turn.tokens c.put_next_conjunction.new.tokens _ _ _ c.in_err-put_next_conjunction.field-0.0 c.loop-turn-test.true seen c.in_err-put_next_conjunction.ensures c.loop-turn.invariant)

pub put_part-returns : goal.put_part-returns
put_part-returns t c =
    let no_not : sees (k.Not ∷ []) c.args.tokens.now ≡ false = cc in
    let no_paren : sees (k.OpenParen ∷ []) c.args.tokens.now ≡ false = cc in
    let read = plain_part c.args.depth c.in_ok-predicate.field-0 c.args.tokens.now c.predicate.new.tokens (omega arith) no_not no_paren c.in_ok-predicate.ensures in
    (conditions.Predicate c.in_ok-predicate.field-0, c.in_ok-push-2.ensures.items, read)

pub part-returns-then-sees-3 : goal.part-returns-then-sees-3
part-returns-then-sees-3 t c =
    let seen : sees (k.Not ∷ []) c.args.tokens.now ≡ true = cc in
    let is : c.args.depth ≡ suc (c.args.depth - 1) = omega arith in
    rw (not_part c.args.depth (c.args.depth - 1) c.args.tokens.now is seen) c.negated.ensures

pub part-returns-then-sees-4 : goal.part-returns-then-sees-4
part-returns-then-sees-4 t c =
    let no_not : sees (k.Not ∷ []) c.args.tokens.now ≡ false = cc in
    let seen : sees (k.OpenParen ∷ []) c.args.tokens.now ≡ true = cc in
    let is : c.args.depth ≡ suc (c.args.depth - 1) = omega arith in
    rw (enclosed_part c.args.depth (c.args.depth - 1) c.args.tokens.now is no_not seen) c.enclosed.ensures
