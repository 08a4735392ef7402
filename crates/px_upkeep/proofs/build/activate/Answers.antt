use Rattle.px_upkeep.proofs.Ending.{active-goes-on, active-waits, is-active, not-active}
use Rattle.px_upkeep.proofs.build.activate.Goals as goal

pub returns-in-Stepped-clause-turns : goal.returns-in-Stepped-clause-turns
returns-in-Stepped-clause-turns g c = λ n own f. active-goes-on g.S.Steps.sound n c.args.table c.args.index own c.args.point c.args.run c.step.new.self _ _ f c.in-Stepped.ensures.definition c.in-Stepped.ensures.turns

pub returns-in-Waiting-clause-turns : goal.returns-in-Waiting-clause-turns
returns-in-Waiting-clause-turns g c = λ n own f. active-waits g.S.Steps.sound n c.args.table c.args.index own c.args.point c.args.run c.step.new.self _ _ _ f c.in-Waiting.ensures.definition c.in-Waiting.ensures.turns

pub returns-in-Over-Ok-clause-turns : goal.returns-in-Over-Ok-clause-turns
returns-in-Over-Ok-clause-turns g c = λ n own f. is-active g.S.Steps.sound n c.args.table c.args.index own c.args.point c.args.run _ _ _ _ f (rw c.in-Over-Ok.field-0-is at c.in-Over-Ok.ensures.turns)

pub returns-in-Over-Err-clause-turns : goal.returns-in-Over-Err-clause-turns
returns-in-Over-Err-clause-turns g c = λ n own f. rw (c.next_of.ensures, c.fault_after.ensures) (not-active g.S.Steps.sound n c.args.table c.args.index own c.args.point c.args.run _ _ _ _ f (rw c.in-Over-Err.field-0-is at c.in-Over-Err.ensures.turns))
