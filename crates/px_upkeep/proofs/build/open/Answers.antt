use Rattle.px_upkeep.proofs.Opening.{not-opened, opens, waits}
use Rattle.px_upkeep.proofs.build.open.Goals as goal

pub returns-in-Ok-clause-turns : goal.returns-in-Ok-clause-turns
returns-in-Ok-clause-turns g c = λ n own f. opens g.S.Steps.sound n c.args.table c.args.index own c.scn_of.result _ _ _ f.asked c.in-Ok.ensures.ok f.is _ c.begin.ensures

pub returns-in-Err-NotYet-clause-turns : goal.returns-in-Err-NotYet-clause-turns
returns-in-Err-NotYet-clause-turns g c = λ n own f. waits g.S.Steps.sound n c.args.table c.args.index own c.args.birth c.scn_of.result c.in-Err-NotYet.field-0-0 _ _ f (rw c.in-Err-NotYet.field-0-is at c.in-Err-NotYet.ensures.refused)

pub returns-in-Err-clause-turns : goal.returns-in-Err-clause-turns
returns-in-Err-clause-turns g c = λ n own f. not-opened g.S.Steps.sound n c.args.table c.args.index own c.args.birth c.scn_of.result _ _ _ _ f c.in-Err.ensures.refused (rw c.fault_of.ensures at c.unopened.ensures)
