use Rattle.std.proofs.Common.{arith}
use Rattle.px_batch.proofs.Turning as turning
use Rattle.px_batch.proofs.Turning.{early_begin, early_settle}
use Rattle.px_batch.proofs.batch.write.Goals as goal

pub returns-in-Ok-More-clause-turns : goal.returns-in-Ok-More-clause-turns
returns-in-Ok-More-clause-turns g c = λ cs w. rw c.write.ensures.ticket (turning.writes _ _ _ c.args.t cs w (rw c.in-Ok-More.field-0-is at c.in-Ok-More.ensures.ok))

pub returns-in-Ok-AllWritten-clause-turns : goal.returns-in-Ok-AllWritten-clause-turns
returns-in-Ok-AllWritten-clause-turns g c = λ cs w. rw c.write.ensures.ticket (turning.writes_all _ _ _ c.args.t cs w (rw c.in-Ok-AllWritten.field-0-is at c.in-Ok-AllWritten.ensures.ok))

pub returns-in-Err-NotYet-clause-turns : goal.returns-in-Err-NotYet-clause-turns
returns-in-Err-NotYet-clause-turns g c = λ cs w. rw c.write.ensures.ticket (turning.waits _ _ _ c.args.t cs _ c.requires w (rw c.in-Err-NotYet.field-0-is at c.in-Err-NotYet.ensures.refused))

pub returns-in-Err-WriteFault-clause-turns : goal.returns-in-Err-WriteFault-clause-turns
returns-in-Err-WriteFault-clause-turns g c = λ cs w. rw c.write.ensures.ticket (turning.write_fails _ _ _ c.args.t cs c.requires (rw c.in-Err-WriteFault.field-0-is at c.in-Err-WriteFault.ensures.refused))

pub returns-in-Err-Closed-clause-turns : goal.returns-in-Err-Closed-clause-turns
returns-in-Err-Closed-clause-turns g c = λ cs w. rw c.write.ensures.ticket (turning.write_closed _ _ _ c.args.t cs _ c.requires (rw c.in-Err-Closed.field-0-is at c.in-Err-Closed.ensures.refused))

pub returns-in-Ok-More-clause-spends : goal.returns-in-Ok-More-clause-spends
returns-in-Ok-More-clause-spends g c = λ alone n. let fewer = c.in-Ok-More.ensures.fewer alone in rw c.write.ensures.ticket (omega arith)

pub returns-in-Ok-AllWritten-clause-spends : goal.returns-in-Ok-AllWritten-clause-spends
returns-in-Ok-AllWritten-clause-spends g c = λ alone n. let fewer = c.in-Ok-AllWritten.ensures.fewer alone in rw c.write.ensures.ticket (omega arith)

pub returns-in-Err-NotYet-clause-spends : goal.returns-in-Err-NotYet-clause-spends
returns-in-Err-NotYet-clause-spends g c = λ alone n. let same = c.in-Err-NotYet.ensures.no_more alone c.in-Err-NotYet.stamp c.in-Err-NotYet.field-0-is in rw c.write.ensures.ticket (omega arith)

pub returns-in-Err-WriteFault-clause-spends : goal.returns-in-Err-WriteFault-clause-spends
returns-in-Err-WriteFault-clause-spends g c = λ alone n. omega arith

pub returns-in-Err-Closed-clause-spends : goal.returns-in-Err-Closed-clause-spends
returns-in-Err-Closed-clause-spends g c = λ alone n. omega arith
