use Rattle.px_upkeep.proofs.Reading.{idles, upkeep-refused, works}
use Rattle.px_upkeep.proofs.build.settle.Goals as goal

pub returns-in-Ok-Did-clause-turns : goal.returns-in-Ok-Did-clause-turns
returns-in-Ok-Did-clause-turns g c = λ n own f. works g.S.Steps.sound n c.args.table c.args.index own c.args.build _ _ _ _ _ f (rw c.in-Ok-Did.field-0-is at c.in-Ok-Did.ensures.ok)

pub returns-in-Ok-Idle-clause-turns : goal.returns-in-Ok-Idle-clause-turns
returns-in-Ok-Idle-clause-turns g c = λ n own f. idles g.S.Steps.sound n c.args.table c.args.index own c.args.build _ _ _ _ _ f (rw c.in-Ok-Idle.field-0-is at c.in-Ok-Idle.ensures.ok)

pub returns-in-Err-clause-turns : goal.returns-in-Err-clause-turns
returns-in-Err-clause-turns g c = λ n own f. rw (c.failed.ensures, c.fault_of.ensures) (upkeep-refused g.S.Steps.sound n c.args.table c.args.index own c.args.build _ _ _ _ _ _ f c.in-Err.ensures.refused)
