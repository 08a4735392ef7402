use Rattle.std.proofs.Common.{◌≡◌, ◌+◌, ◌-◌, ℕ, take, drop, subst, sym, ap, ◌∙◌, arith}
use Rattle.std.specs.Str.{IsUtf8}
use Rattle.px_pieces.specs.Taking.{IsTakenAt}
use Rattle.px_schema.specs.Texts.{CharState, text}
use Rattle.px_schema.specs.Underway.{state_in}
use Rattle.px_schema.proofs.Characters.{text_utf8}
use Rattle.px_schema.proofs.TextSteps.{IsTextPart, text_cut, text_done, text_more, text_start, text_wrong}
use Rattle.px_schema.proofs.text.text_in.Goals as goal

pub loop-taken-init : goal.loop-taken-init
loop-taken-init c = text_start c.args.size c.args.bytes.now c.args.at c.requires.begins

pub returns-then-place-bytes-clause-stopped : goal.returns-then-place-bytes-clause-stopped
returns-then-place-bytes-clause-stopped c =
    text_cut c.args.size c.args.bytes.now c.args.at c.loop-taken.taken (state_in c.loop-taken.under_way) c.loop-taken.invariant c.loop-taken-test.true (omega (arith, c.if-place-bytes.true))

pub returns-then-not-goes_on-clause-stopped : goal.returns-then-not-goes_on-clause-stopped
returns-then-not-goes_on-clause-stopped c =
    text_wrong c.args.size c.args.bytes.now c.args.at c.loop-taken.taken (state_in c.loop-taken.under_way) c.loop-taken.invariant c.loop-taken-test.true (omega (arith, c.if-place-bytes.false, c.loop-taken.invariant.within))
    (sym c.goes_on.ensures ∙ c.if-not-goes_on.true)

pub loop-taken-preserved : goal.loop-taken-preserved
loop-taken-preserved c =
    subst (λ (s : CharState). IsTextPart c.args.size c.args.bytes.now c.args.at (c.loop-taken.taken + 1) s) (sym c.behind-under_way.ensures)
    (text_more c.args.size c.args.bytes.now c.args.at c.loop-taken.taken (state_in c.loop-taken.under_way) c.loop-taken.invariant c.loop-taken-test.true (omega (arith, c.if-place-bytes.false, c.loop-taken.invariant.within))
    (sym c.goes_on.ensures ∙ c.if-not-goes_on.false))

pub from_utf8_unchecked-requires : goal.from_utf8_unchecked-requires
from_utf8_unchecked-requires c =
    let done = text_done c.args.size c.args.bytes.now c.args.at c.loop-taken.taken (state_in c.loop-taken.under_way) (omega (arith, c.loop-taken-test.false, c.loop-taken.auto.taken-end)) c.loop-taken.invariant in
    let right = ((text c.args.size).taken (drop c.args.at c.args.bytes.now) (take c.args.size (drop c.args.at c.args.bytes.now)) (drop (c.args.at + c.args.size) c.args.bytes.now) done.read).0 in
    let same : c.args.size ≡ c.args.at + c.args.size - c.args.at = omega arith in
    subst (λ (n : ℕ). IsUtf8 (take n (drop c.args.at c.args.bytes.now))) same (text_utf8 c.args.size (take c.args.size (drop c.args.at c.args.bytes.now)) right)

pub returns-clause-taken : goal.returns-clause-taken
returns-clause-taken c =
    let done = text_done c.args.size c.args.bytes.now c.args.at c.loop-taken.taken (state_in c.loop-taken.under_way) (omega (arith, c.loop-taken-test.false, c.loop-taken.auto.taken-end)) c.loop-taken.invariant in
    let same : c.args.size ≡ c.args.at + c.args.size - c.args.at = omega arith in
    subst (λ l. IsTakenAt (text c.args.size) c.args.bytes.now c.args.at l (c.args.at + c.args.size)) (ap (λ (n : ℕ). take n (drop c.args.at c.args.bytes.now)) same ∙ sym c.from_utf8_unchecked.ensures) done
