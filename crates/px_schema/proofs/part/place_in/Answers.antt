use Rattle.std.proofs.Common.{◌+◌, ℕ, subst}
use Rattle.std.specs.Prelude.{IfErr, IfOk}
use Rattle.px_pieces.specs.Bytes.{one_byte}
use Rattle.px_pieces.specs.Taking.{IsStoppedAt, IsTakenAt}
use Rattle.px_schema.specs.Parts.{place}
use Rattle.px_schema.proofs.part.place_in.Goals as goal

pub returns-clause-taken : goal.returns-clause-taken
unfolding place
returns-clause-taken c = subst (λ (n : ℕ). IfOk c.byte_in.result (λ column. IsTakenAt (one_byte 0 n) c.args.bytes.now c.args.at column (c.args.at + 1))) c.min.ensures c.byte_in.ensures.taken

pub returns-clause-stopped : goal.returns-clause-stopped
unfolding place
returns-clause-stopped c = subst (λ (n : ℕ). IfErr c.byte_in.result (λ wrong. IsStoppedAt (one_byte 0 n) c.args.bytes.now c.args.at wrong.place)) c.min.ensures c.byte_in.ensures.stopped
