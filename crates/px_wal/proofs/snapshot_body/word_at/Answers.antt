use Rattle.std.proofs.Common.{◌+◌, ◌-◌, arith}
use Rattle.px_wal.proofs.Snapshots.{word_at}
use Rattle.px_wal.proofs.snapshot_body.word_at.Goals as goal

pub returns : goal.returns
returns c = word_at c.args.body.now c.args.at c.read_u64.result (c.args.at + 8 - c.args.at) (λ i. omega (arith, c.type_inv.body i)) c.requires (omega arith) (omega (arith, c.read_u64.ensures))
