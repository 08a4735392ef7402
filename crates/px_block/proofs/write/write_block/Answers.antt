use Rattle.std.proofs.Common.{arith}
use Rattle.px_block.proofs.Counts.{length-block_bytes}
use Rattle.px_block.proofs.write.write_block.Goals as goal

pub returns-in_err-write_count-clause-room : goal.returns-in_err-write_count-clause-room
returns-in_err-write_count-clause-room c = λ room. (let l = length-block_bytes c.args.cells.now in let none = c.in_err-write_count.ensures.room (omega arith) in absurd cc)
