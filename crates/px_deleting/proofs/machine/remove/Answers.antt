use Rattle.px_deleting.proofs.Going.{removes-no-more, removes-on, removes-then, removes-waiting}
use Rattle.px_deleting.proofs.machine.remove.Goals as goal

pub returns-in-Stepped-clause-turns : goal.returns-in-Stepped-clause-turns
returns-in-Stepped-clause-turns g c = λ p f. removes-on g.S.Steps.sound p _ _ c.args.run c.step.new.self c.args.left c.in-Stepped.ensures.table c.in-Stepped.ensures.changes f c.in-Stepped.ensures.turns

pub returns-in-Waiting-clause-turns : goal.returns-in-Waiting-clause-turns
returns-in-Waiting-clause-turns g c = λ p f. removes-waiting g.S.Steps.sound p _ _ c.args.run c.step.new.self c.args.left _ c.in-Waiting.ensures.table c.in-Waiting.ensures.changes f c.in-Waiting.ensures.turns

pub returns-in-Over-Ok-clause-turns : goal.returns-in-Over-Ok-clause-turns
returns-in-Over-Ok-clause-turns g c = λ p f. removes-then g.S.Steps.sound p _ _ c.args.run c.args.left _ c.in-Over-Ok.receipt _ _ f (rw c.in-Over-Ok.field-0-is at c.in-Over-Ok.ensures.turns) c.go_on.ensures

pub returns-in-Over-Err-clause-turns : goal.returns-in-Over-Err-clause-turns
returns-in-Over-Err-clause-turns g c = λ p f. removes-no-more g.S.Steps.sound p _ _ c.args.run c.args.left _ c.in-Over-Err.fault _ f (rw c.in-Over-Err.field-0-is at c.in-Over-Err.ensures.turns) c.stopped.ensures
