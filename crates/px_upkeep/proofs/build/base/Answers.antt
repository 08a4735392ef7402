use Rattle.px_upkeep.proofs.Reading.{base-busy, base-not-ready, base-refused, based}
use Rattle.px_upkeep.proofs.build.base.Goals as goal

pub returns-in-Ok-clause-turns : goal.returns-in-Ok-clause-turns
returns-in-Ok-clause-turns g c = λ n own f. based g.S.Steps.sound n c.args.table c.args.index own c.args.build _ _ _ _ _ _ _ f c.in-Ok.ensures.ok c.base_on.ensures

pub returns-in-Err-Busy-clause-turns : goal.returns-in-Err-Busy-clause-turns
returns-in-Err-Busy-clause-turns g c = λ n own f. base-busy g.S.Steps.sound n c.args.table c.args.index own c.args.build _ _ _ c.in-Err-Busy.field-0-0 c.in-Err-Busy.field-0-1 c.in-Err-Busy.field-0-2 _ _ f (rw c.in-Err-Busy.field-0-is at c.in-Err-Busy.ensures.refused)

pub returns-in-Err-NotReady-clause-turns : goal.returns-in-Err-NotReady-clause-turns
returns-in-Err-NotReady-clause-turns g c = λ n own f. base-not-ready g.S.Steps.sound n c.args.table c.args.index own c.args.build _ _ _ c.in-Err-NotReady.field-0-0 _ _ f (rw c.in-Err-NotReady.field-0-is at c.in-Err-NotReady.ensures.refused)

pub returns-in-Err-clause-turns : goal.returns-in-Err-clause-turns
returns-in-Err-clause-turns g c = λ n own f. rw (c.failed.ensures, c.fault_of.ensures) (base-refused g.S.Steps.sound n c.args.table c.args.index own c.args.build _ _ _ _ _ _ f c.in-Err.ensures.refused)
