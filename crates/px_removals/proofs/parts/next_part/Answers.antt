use Rattle.std.proofs.Common.{◌∙◌, arith}
use Rattle.px_removals.proofs.Splitting.{front-up-to, rest-up-to}
use Rattle.px_removals.proofs.parts.next_part.Goals as goal

pub returns-clause-part : goal.returns-clause-part
returns-clause-part c = c.of.ensures ∙ (c.loop-i.invariant.part ∙ front-up-to 1000 c.loop-i.i c.args.left.now.items (omega arith) (λ h. omega arith))

pub returns-clause-left : goal.returns-clause-left
returns-clause-left c = c.loop-i.invariant.left ∙ rest-up-to 1000 c.loop-i.i c.args.left.now.items (omega arith) (λ h. omega arith)
