use Rattle.px_item.proofs.Committing.{commit_fits, commit_goes_on, commit_is_over, commit_waits}
use Rattle.px_item.proofs.commanding.commit.Goals as goal

pub step-turn-requires : goal.step-turn-requires
step-turn-requires g c = let f = c.requires.2 in commit_fits g.S.Steps.sound c.requires.0 c.args.asked c.requires.1 c.args.again c.args.run c.in-Some.held _ c.in-Some.is f.state

pub returns-in-Stepped-clause-turns : goal.returns-in-Stepped-clause-turns
returns-in-Stepped-clause-turns g c = λ before own f. commit_goes_on g.S.Steps.sound before c.args.asked own c.args.again c.args.run _ c.in-Some.held _ _ c.in-Some.is f (rw c.in-Stepped.is at c.step-turn.ensures.turns)

pub returns-in-Waiting-clause-turns : goal.returns-in-Waiting-clause-turns
returns-in-Waiting-clause-turns g c = λ before own f. commit_waits g.S.Steps.sound before c.args.asked own c.args.again c.args.run _ c.in-Some.held _ _ c.in-Some.is f (rw c.in-Waiting.is at c.step-turn.ensures.turns)

pub returns-in-Over-clause-turns : goal.returns-in-Over-clause-turns
returns-in-Over-clause-turns g c = λ before own f. commit_is_over g.S.Steps.sound before c.args.asked own c.args.again c.args.run c.in-Some.held _ _ _ c.committed.result c.in-Some.is f (rw c.in-Over.is at c.step-turn.ensures.turns) c.committed.ensures
