use Rattle.std.proofs.Common.{◌<◌, ◌*◌, ℕ, List, length, sym, subst, ap, ◌∙◌}
use Rattle.px_keyfilter.specs.Keys.{second_bit, with_bit, with_key}
use Rattle.px_keyfilter.proofs.Bits.{length-with_bit}
use Rattle.px_keyfilter.proofs.filter.KeyFilter.add.Goals as goal

pub set-requires-2 : goal.set-requires-2
set-requires-2 c =
    let self = c.args.self.now in
    let long = ap length c.set.ensures ∙ length-with_bit self c.bits_of-first.result.0 in
    subst (λ (n : ℕ). c.bits_of-first.result.1 < 64 * n) (sym long) c.bits_of-first.ensures.second_within

pub returns : goal.returns
unfolding with_key
returns c =
    let self = c.args.self.now in
    let key = c.args.key.now in
    c.set-2.ensures ∙ ap (λ (l : List ℕ). with_bit l c.bits_of-first.result.1) c.set.ensures
    ∙ ap (λ (n : ℕ). with_bit (with_bit self c.bits_of-first.result.0) n) c.bits_of-first.ensures.second
    ∙ ap (λ (n : ℕ). with_bit (with_bit self n) (second_bit self key)) c.bits_of-first.ensures.first
