use Rattle.px_item.specs.Right.{deletion_query}
use Rattle.px_item.proofs.Going.{delete_goes_on, delete_is_over, delete_waits}
use Rattle.px_item.proofs.item.delete.Goals as goal

pub step-requires-clause-fits : goal.step-requires-clause-fits
step-requires-clause-fits g c = let j = c.requires.2.state.1 in (deletion_query j.found j.delete, j.fits)

pub returns-in-Stepped-clause-turns : goal.returns-in-Stepped-clause-turns
returns-in-Stepped-clause-turns g c = λ before own f. delete_goes_on g.S.Steps.sound before c.args.asked own c.args.statement c.args.run c.step.new.self _ _ f c.in-Stepped.ensures.turns

pub returns-in-Waiting-clause-turns : goal.returns-in-Waiting-clause-turns
returns-in-Waiting-clause-turns g c = λ before own f. delete_waits g.S.Steps.sound before c.args.asked own c.args.statement c.args.run c.step.new.self _ _ _ f c.in-Waiting.ensures.turns

pub returns-in-Over-clause-turns : goal.returns-in-Over-clause-turns
returns-in-Over-clause-turns g c = λ before own f. delete_is_over g.S.Steps.sound before c.args.asked own c.args.statement c.args.run c.step.new.self _ _ _ c.deleted.result f c.in-Over.ensures.turns c.deleted.ensures
