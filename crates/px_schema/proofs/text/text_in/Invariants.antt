use Rattle.px_schema.specs.Underway.{state_in}
use Rattle.px_schema.proofs.TextSteps.{IsTextPart}
use Rattle.px_schema.proofs.text.text_in.Given as goal

abbrev pub invariant-loop-taken : goal.invariant-loop-taken
invariant-loop-taken l = IsTextPart l.size l.bytes l.at l.taken (state_in l.under_way)
