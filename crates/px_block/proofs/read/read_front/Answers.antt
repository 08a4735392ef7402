use Rattle.std.proofs.Common.{◌-◌, length, take, drop, arith}
use Rattle.std.proofs.lemmas.List.{take_rest}
use Rattle.px_block.proofs.Steps.{front_fault}
use Rattle.px_block.proofs.read.read_front.Goals as goal

pub returns-in-Err-clause-fault : goal.returns-in-Err-clause-fault
returns-in-Err-clause-fault c = front_fault c.args.before.now c.args.bytes.now (take (length c.args.bytes.now - 4) (drop 4 c.args.bytes.now)) c.count_of-count.result c.in-Err.fault c.moved.result (take_rest c.args.bytes.now 4) c.count_of-count.ensures.count (omega arith, λ none. (let k = c.count_of-count.ensures.count in absurd (omega arith))) c.in-Err.ensures.fault c.moved.ensures
