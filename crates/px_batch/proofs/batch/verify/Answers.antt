use Rattle.std.proofs.Common.{arith}
use Rattle.px_batch.proofs.Turning as turning
use Rattle.px_batch.proofs.Turning.{early_begin, early_settle}
use Rattle.px_batch.proofs.batch.verify.Goals as goal

pub returns-in-Ok-More-clause-turns : goal.returns-in-Ok-More-clause-turns
returns-in-Ok-More-clause-turns g c = λ cs w. rw c.verify_marks.ensures.ticket (turning.verifies _ _ _ c.args.t cs c.requires w (rw c.in-Ok-More.field-0-is at c.in-Ok-More.ensures.ok))

pub returns-in-Ok-Done-clause-turns : goal.returns-in-Ok-Done-clause-turns
returns-in-Ok-Done-clause-turns g c = λ cs w. rw c.verify_marks.ensures.ticket (turning.verifies_all _ _ _ c.args.t cs c.requires w (rw c.in-Ok-Done.field-0-is at c.in-Ok-Done.ensures.ok))

pub returns-in-Err-WriteFault-clause-turns : goal.returns-in-Err-WriteFault-clause-turns
returns-in-Err-WriteFault-clause-turns g c = λ cs w. rw c.verify_marks.ensures.ticket (turning.verify_fails _ _ _ c.args.t cs c.requires w (rw c.in-Err-WriteFault.field-0-is at c.in-Err-WriteFault.ensures.refused))

pub returns-in-Err-Closed-clause-turns : goal.returns-in-Err-Closed-clause-turns
returns-in-Err-Closed-clause-turns g c = λ cs w. rw c.verify_marks.ensures.ticket (turning.verify_closed _ _ _ c.args.t cs _ c.requires w (rw c.in-Err-Closed.field-0-is at c.in-Err-Closed.ensures.refused))

pub returns-in-Ok-More-clause-spends : goal.returns-in-Ok-More-clause-spends
returns-in-Ok-More-clause-spends g c = λ alone n. let fewer = c.in-Ok-More.ensures.fewer alone in rw c.verify_marks.ensures.ticket (omega arith)

pub returns-in-Ok-Done-clause-spends : goal.returns-in-Ok-Done-clause-spends
returns-in-Ok-Done-clause-spends g c = λ alone n. omega arith

pub returns-in-Err-WriteFault-clause-spends : goal.returns-in-Err-WriteFault-clause-spends
returns-in-Err-WriteFault-clause-spends g c = λ alone n. omega arith

pub returns-in-Err-Closed-clause-spends : goal.returns-in-Err-Closed-clause-spends
returns-in-Err-Closed-clause-spends g c = λ alone n. omega arith
