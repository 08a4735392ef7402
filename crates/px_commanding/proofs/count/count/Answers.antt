use Rattle.px_commanding.proofs.Counting.{counted, not-counted}
use Rattle.px_commanding.proofs.count.count.Goals as goal

pub returns-in-Ok-clause-turns : goal.returns-in-Ok-clause-turns
returns-in-Ok-clause-turns g c = λ n w. counted n c.args.name.now _ c.args.table _ _ _ w c.in-Ok.ensures.ok

pub returns-in-Err-clause-turns : goal.returns-in-Err-clause-turns
returns-in-Err-clause-turns g c = λ n w. rw c.uncounted.ensures (not-counted n c.args.name.now _ c.args.table _ _ _ w c.in-Err.ensures.refused)
