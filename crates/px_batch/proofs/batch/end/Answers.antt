use Rattle.std.proofs.Common.{arith}
use Rattle.px_batch.proofs.Turning as turning
use Rattle.px_batch.proofs.Turning.{early_begin, early_settle}
use Rattle.px_batch.proofs.batch.end.Goals as goal

pub returns-clause-turns : goal.returns-clause-turns
returns-clause-turns g c = λ cs w. turning.ends _ _ _ c.args.t cs _ w c.end-receipt.ensures.adds c.end-receipt.ensures.receipt

pub returns-clause-spends : goal.returns-clause-spends
returns-clause-spends g c = λ alone n. omega arith
