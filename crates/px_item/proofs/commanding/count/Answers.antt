use Rattle.px_item.proofs.Committing.{count_goes_on, count_is_over}
use Rattle.px_item.proofs.commanding.count.Goals as goal

pub returns-in-Stepped-clause-turns : goal.returns-in-Stepped-clause-turns
returns-in-Stepped-clause-turns g c = λ before own f. count_goes_on g.S.Steps.sound before c.args.asked own c.args.name c.args.run _ _ _ f c.in-Stepped.ensures.turns

pub returns-in-Over-clause-turns : goal.returns-in-Over-clause-turns
returns-in-Over-clause-turns g c = λ before own f. count_is_over g.S.Steps.sound before c.args.asked own c.args.name c.args.run _ _ _ c.counted.result f c.in-Over.ensures.turns c.counted.ensures
