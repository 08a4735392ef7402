use Rattle.std.proofs.Common.{◌≡◌, [], ◌∷◌, List, ℕ, length, refl, sym, ◌∙◌, ap, arith, subst}
use Rattle.std.proofs.lemmas.Bool.{eqb-true}
use Rattle.px_script.specs.Scripts.{lines_of, script_of}
use Rattle.px_script.specs.inner.Dividing.{IsDivided}
use Rattle.px_script.proofs.Divisions.{divided-whole}
use Rattle.px_script.proofs.Texts.{length-texts}
use Rattle.px_script.proofs.dividing.divided.Goals as goal

pub pass-requires : goal.pass-requires
pass-requires c = ap length c.loop-rest.invariant.1.texts_are ∙ length-texts c.loop-rest.invariant.1.begun

pub end_round-requires : goal.end_round-requires
end_round-requires c = ap length c.loop-rest.invariant.1.texts_are ∙ length-texts c.loop-rest.invariant.1.begun

nothing : (l : List ℕ) → length l ≡ 0 → l ≡ []
nothing [] e = refl
nothing (b ∷ l) e = absurd (omega (arith, e))

pub returns : goal.returns
unfolding lines_of
returns c =
    let e : c.loop-rest.rest.now ≡ [] = nothing c.loop-rest.rest.now (eqb-true (length c.loop-rest.rest.now) 0 (sym c.is_empty.ensures ∙ c.loop-rest-test.false)) in
    let d : IsDivided c.loop-rest.divided.rounds.items c.loop-rest.divided.slots.items [] (script_of c.args.script.now) =
    subst (λ (l : List ℕ). IsDivided c.loop-rest.divided.rounds.items c.loop-rest.divided.slots.items (lines_of l) (script_of c.args.script.now)) e c.loop-rest.invariant.1 in
    c.of.ensures ∙ divided-whole _ _ _ _ (script_of c.args.script.now) d c.in_ok-end_round.ensures
