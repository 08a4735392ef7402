use Rattle.std.proofs.Common.{◌+◌, ◌-◌, arith}
use Rattle.px_wal.proofs.Snapshots.{half_word_at}
use Rattle.px_wal.proofs.snapshot_body.half_word_at.Goals as goal

pub returns-clause-spelled : goal.returns-clause-spelled
returns-clause-spelled c = half_word_at c.args.body.now c.args.at c.read_u32.result (c.args.at + 4 - c.args.at) (λ i. omega (arith, c.type_inv.body i)) c.requires (omega arith) (omega (arith, c.read_u32.ensures))
