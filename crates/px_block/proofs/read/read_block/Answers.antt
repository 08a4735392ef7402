use Rattle.px_block.specs.Reading.IsBlockFault.{of_front}
use Rattle.px_block.proofs.Steps.{whole_fault}
use Rattle.px_block.proofs.read.read_block.Goals as goal

pub returns-in-Ok-clause-fault : goal.returns-in-Ok-clause-fault
returns-in-Ok-clause-fault c = whole_fault c.args.bytes.now c.in-Ok.front.cells c.in-Ok.front.end c.in-Ok.ensures.front c.in-Ok.ensures.end.0 c.whole.result c.whole.ensures.fault

pub returns-in-Err-clause-fault : goal.returns-in-Err-clause-fault
returns-in-Err-clause-fault c = λ other. of_front (c.in-Err.ensures.fault other)
