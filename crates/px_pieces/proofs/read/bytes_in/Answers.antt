use Rattle.std.proofs.Common.{◌≡◌, ◌+◌, ◌-◌, ℕ, take, drop, subst, sym, arith}
use Rattle.px_pieces.specs.Bytes.{bytes as any_bytes}
use Rattle.px_pieces.specs.Taking.{IsTakenAt}
use Rattle.px_pieces.proofs.Bytewise.{bytes_stopped, bytes_taken}
use Rattle.px_pieces.proofs.read.bytes_in.Goals as goal

pub returns-then-bytes-at-clause-stopped : goal.returns-then-bytes-at-clause-stopped
returns-then-bytes-at-clause-stopped c = bytes_stopped c.args.bytes.now (λ i. omega (arith, c.type_inv.bytes i)) c.args.size c.args.at c.requires.begins (omega (arith, c.if-bytes-at.true, c.requires))

pub returns-clause-taken : goal.returns-clause-taken
returns-clause-taken c =
    let same : c.args.at + c.args.size - c.args.at ≡ c.args.size = omega arith in
    subst (λ (n : ℕ). IsTakenAt (any_bytes c.args.size) c.args.bytes.now c.args.at (take n (drop c.args.at c.args.bytes.now)) (c.args.at + c.args.size)) (sym same)
    (bytes_taken c.args.bytes.now (λ i. omega (arith, c.type_inv.bytes i)) c.args.size c.args.at (omega (arith, c.if-bytes-at.false, c.requires)))
