use Rattle.std.proofs.Common.{arith}
use Rattle.px_block.proofs.Counts.{count_spelled}
use Rattle.px_block.proofs.read.count_of.Goals as goal

pub returns-clause-spelled : goal.returns-clause-spelled
returns-clause-spelled c = count_spelled c.args.bytes.now c.read_u32.result (λ i. omega (arith, c.type_inv.bytes i)) c.requires (omega (arith, c.read_u32.ensures))
