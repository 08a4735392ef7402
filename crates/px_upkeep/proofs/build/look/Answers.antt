use Rattle.px_upkeep.proofs.Reading.{look-refused, looks}
use Rattle.px_upkeep.proofs.build.look.Goals as goal

pub returns-in-Ok-clause-turns : goal.returns-in-Ok-clause-turns
returns-in-Ok-clause-turns g c = λ n own f. looks g.S.Steps.sound n c.args.table c.args.index own c.args.build _ _ _ _ f _ c.in-Ok.ensures.ok _ c.take.ensures

pub returns-clause-turns : goal.returns-clause-turns
returns-clause-turns g c = λ n own f. rw (c.failed.ensures, c.fault_of.ensures) (look-refused g.S.Steps.sound n c.args.table c.args.index own c.args.build _ _ _ _ _ f c.in-Err.ensures.refused)
