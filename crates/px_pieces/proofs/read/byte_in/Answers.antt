use Rattle.std.proofs.Common.{arith}
use Rattle.px_pieces.proofs.Bytewise.{one_byte_end, one_byte_high, one_byte_low, one_byte_taken}
use Rattle.px_pieces.proofs.read.byte_in.Goals as goal

pub returns-then-at-bytes-clause-stopped : goal.returns-then-at-bytes-clause-stopped
returns-then-at-bytes-clause-stopped c = one_byte_end c.args.bytes.now c.args.at c.args.least c.args.end (omega (arith, c.if-at-bytes.true))

pub returns-then-byte-least-clause-stopped : goal.returns-then-byte-least-clause-stopped
returns-then-byte-least-clause-stopped c = one_byte_low c.args.bytes.now c.args.at c.args.least c.args.end (omega (arith, c.if-at-bytes.false, c.requires)) (omega (arith, c.if-byte-least.true))

pub returns-then-from-end-clause-stopped : goal.returns-then-from-end-clause-stopped
returns-then-from-end-clause-stopped c = one_byte_high c.args.bytes.now c.args.at c.args.least c.args.end (omega (arith, c.if-at-bytes.false, c.requires)) (omega (arith, c.if-from-end.true, c.from.ensures))

pub returns-clause-taken : goal.returns-clause-taken
returns-clause-taken c = one_byte_taken c.args.bytes.now c.args.at c.args.least c.args.end (omega (arith, c.if-at-bytes.false, c.requires)) (omega (arith, c.if-byte-least.false)) (omega (arith, c.if-from-end.false, c.from.ensures))
