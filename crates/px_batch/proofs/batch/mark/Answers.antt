use Rattle.std.proofs.Common.{arith}
use Rattle.px_batch.proofs.Turning as turning
use Rattle.px_batch.proofs.Turning.{early_begin, early_settle}
use Rattle.px_batch.proofs.batch.mark.Goals as goal

pub returns-in-Ok-More-clause-turns : goal.returns-in-Ok-More-clause-turns
returns-in-Ok-More-clause-turns g c = λ cs w. rw c.mark.ensures.ticket (turning.marks _ _ _ c.args.t cs c.requires w (rw c.in-Ok-More.field-0-is at c.in-Ok-More.ensures.ok))

pub returns-in-Ok-AllMarked-clause-turns : goal.returns-in-Ok-AllMarked-clause-turns
returns-in-Ok-AllMarked-clause-turns g c = λ cs w. rw c.mark.ensures.ticket (turning.marks_all _ _ _ c.args.t cs c.requires w (rw c.in-Ok-AllMarked.field-0-is at c.in-Ok-AllMarked.ensures.ok))

pub returns-in-Err-WriteFault-clause-turns : goal.returns-in-Err-WriteFault-clause-turns
returns-in-Err-WriteFault-clause-turns g c = λ cs w. rw c.mark.ensures.ticket (turning.mark_fails _ _ _ c.args.t cs c.requires (rw c.in-Err-WriteFault.field-0-is at c.in-Err-WriteFault.ensures.refused))

pub returns-in-Err-Closed-clause-turns : goal.returns-in-Err-Closed-clause-turns
returns-in-Err-Closed-clause-turns g c = λ cs w. rw c.mark.ensures.ticket (turning.mark_closed _ _ _ c.args.t cs _ c.requires (rw c.in-Err-Closed.field-0-is at c.in-Err-Closed.ensures.refused))

pub returns-in-Ok-More-clause-spends : goal.returns-in-Ok-More-clause-spends
returns-in-Ok-More-clause-spends g c = λ alone n. let fewer = c.in-Ok-More.ensures.fewer alone in rw c.mark.ensures.ticket (omega arith)

pub returns-in-Ok-AllMarked-clause-spends : goal.returns-in-Ok-AllMarked-clause-spends
returns-in-Ok-AllMarked-clause-spends g c = λ alone n. let fewer = c.in-Ok-AllMarked.ensures.fewer alone in rw c.mark.ensures.ticket (omega arith)

pub returns-in-Err-WriteFault-clause-spends : goal.returns-in-Err-WriteFault-clause-spends
returns-in-Err-WriteFault-clause-spends g c = λ alone n. omega arith

pub returns-in-Err-Closed-clause-spends : goal.returns-in-Err-Closed-clause-spends
returns-in-Err-Closed-clause-spends g c = λ alone n. omega arith
