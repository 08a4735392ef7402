use Rattle.std.proofs.Common.{arith}
use Rattle.px_batch.proofs.Turning as turning
use Rattle.px_batch.proofs.Turning.{early_begin, early_settle}
use Rattle.px_batch.proofs.batch.leave.Goals as goal

pub returns-clause-turns : goal.returns-clause-turns
returns-clause-turns g c = λ cs. turning.leaves _ _ _ c.args.t cs c.args.fault c.requires.can c.requires.told c.abandon.ensures.sees

pub returns-clause-spends : goal.returns-clause-spends
returns-clause-spends g c = λ alone n. omega arith
