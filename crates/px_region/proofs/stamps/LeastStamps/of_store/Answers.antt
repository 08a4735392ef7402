use Rattle.px_region.proofs.Least.{least_read}
use Rattle.px_region.proofs.stamps.LeastStamps.of_store.Goals as goal

pub returns : goal.returns
returns c = λ batches is. least_read _ c.args.store.now.cells batches c.least_in-least.ensures c.least_in-least.ensures is
