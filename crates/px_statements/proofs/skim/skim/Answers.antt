use Rattle.std.proofs.Common.{◌≡◌, ◌∷◌, [], ◌-◌, length, true, false, ap, arith}
use Rattle.px_lex.specs.declared.kind.Kind.TheVariants as k
use Rattle.px_ast.specs.Rule.{sees}
use Rattle.px_statements.specs.inner.Skim.{skim_from, skim}
use Rattle.px_statements.proofs.Skimming.{turn_not, turn_open, turn_predicate, closes_fewer}
use Rattle.px_statements.proofs.skim.skim.Goals as goal
use Rattle.px_statements.proofs.skim.skim.Goals.{then-sees, else-sees+then-sees-2, else-sees+else-sees-2+in_ok-pass_predicate+in_ok-closes+in-Some}

pub loop-turn-init : goal.loop-turn-init
unfolding skim
loop-turn-init c =
    let n : c.left-turn-end.result - 0 ≡ length c.args.tokens.now = omega (arith, c.left-turn-end.ensures) in
    record { same = ap (λ n. skim_from n 0 c.args.tokens.now) n; few = omega arith }

pub loop-turn-preserved : goal.loop-turn-preserved
loop-turn-preserved c =
    elim c.if-sees.branch [
      | then-sees w ↦
          let seen : sees (k.Not ∷ []) c.loop-turn.tokens ≡ true = cc in
          record {
            same = rw (w.tokens-is, w.inside-is, w.pass.ensures) (turn_not _ _ _ _ _ c.loop-turn-test.true seen c.loop-turn.invariant.same);
            few = omega (arith, c.loop-turn.invariant.few, w.inside-is);
          }
      | else-sees+then-sees-2 w ↦
          let unseen : sees (k.Not ∷ []) c.loop-turn.tokens ≡ false = cc in
          let seen : sees (k.OpenParen ∷ []) c.loop-turn.tokens ≡ true = cc in
          record {
            same = rw (w.tokens-is, w.inside-is, w.pass-then-sees-2.ensures) (turn_open _ _ _ _ _ c.loop-turn-test.true unseen seen c.loop-turn.invariant.same);
            few = omega (arith, c.loop-turn.invariant.few, w.inside-is);
          }
      | else-sees+else-sees-2+in_ok-pass_predicate+in_ok-closes+in-Some w ↦
          let unseen : sees (k.Not ∷ []) c.loop-turn.tokens ≡ false = cc in
          let unseen_too : sees (k.OpenParen ∷ []) c.loop-turn.tokens ≡ false = cc in
          let read = rw w.in-Some.is at w.in_ok-closes.ensures in
          let fewer = closes_fewer c.loop-turn.inside w.in-Some.still w.pass_predicate.new.tokens w.closes.new.tokens read in
          record {
            same = rw (w.tokens-is, w.inside-is) (turn_predicate _ _ _ w.in-Some.still c.loop-turn.tokens w.pass_predicate.new.tokens w.closes.new.tokens w.in_ok-pass_predicate.field-0 _ c.loop-turn-test.true unseen unseen_too w.in_ok-pass_predicate.ensures read c.loop-turn.invariant.same);
            few = omega (arith, c.loop-turn.invariant.few, w.inside-is, fewer);
          }
    ]
