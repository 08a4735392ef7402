use Rattle.px_item.proofs.Done.{done_then}
use Rattle.px_item.proofs.Ordering.{order_goes_on, order_is_over}
use Rattle.px_item.proofs.commanding.order.Goals as goal

pub returns-in-Stepped-clause-turns : goal.returns-in-Stepped-clause-turns
returns-in-Stepped-clause-turns g c = λ before own f. order_goes_on g.S.Steps.sound before c.args.asked own (g.S.Steps.ordered c.step.new.s) (g.S.Steps.done c.step.new.s) c.args.run _ _ _ f c.in-Stepped.ensures.turns c.in-Stepped.ensures.leads

pub returns-in-Over-clause-turns : goal.returns-in-Over-clause-turns
returns-in-Over-clause-turns g c = λ before own f. order_is_over g.S.Steps.sound before c.args.asked own c.args.run _ _ _ c.ordered.result f c.in-Over.ensures.turns (rw c.job-job.ensures at c.ordered.ensures)

pub returns-in-Over-clause-done : goal.returns-in-Over-clause-done
returns-in-Over-clause-done g c = λ job tells. done_then c.args.asked (g.S.Steps.ordered c.step.new.s) (g.S.Steps.done c.step.new.s) c.args.run _ c.ordered.result c.in-Over.ensures.leads (rw c.job-job.ensures at c.ordered.ensures) job tells
