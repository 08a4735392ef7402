use Rattle.px_commanding.proofs.Counting.{found-none, found-one}
use Rattle.px_commanding.proofs.count.find.Goals as goal

pub returns-in-Ok-clause-turns : goal.returns-in-Ok-clause-turns
returns-in-Ok-clause-turns g c = λ n low. found-one n c.args.name.now _ _ _ _ low c.in-Ok.ensures.ok

pub returns-in-Err-clause-turns : goal.returns-in-Err-clause-turns
returns-in-Err-clause-turns g c = λ n low. rw c.unfound.ensures (found-none n c.args.name.now _ _ _ _ c.in-Err.ensures.refused)
