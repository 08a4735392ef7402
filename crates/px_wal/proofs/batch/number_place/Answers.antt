use Rattle.std.proofs.Common.{arith, sym, ap, ◌∙◌, ◌+◌, List, ℕ}
use Rattle.std.specs.Int.{w64, to_be_bytes}
use Rattle.px_wal.specs.Form.{differs_at}
use Rattle.px_wal.proofs.Readings.{place_none, place_some}
use Rattle.px_wal.proofs.batch.number_place.Goals as goal

pub returns-in-None-clause-place : goal.returns-in-None-clause-place
returns-in-None-clause-place c = sym (place_none (c.args.last + 1) c.args.number (omega (arith, c.in-None.ensures)))

pub returns-in-Some-clause-place : goal.returns-in-Some-clause-place
returns-in-Some-clause-place c =
    c.differ.ensures.place ∙ ap (λ (l : List ℕ). differs_at 0 l c.to_be_bytes-in-Some.result) c.to_be_bytes.ensures
    ∙ ap (differs_at 0 (to_be_bytes w64 c.in-Some.right)) c.to_be_bytes-in-Some.ensures ∙ ap (λ (k : ℕ). differs_at 0 (to_be_bytes w64 k) (to_be_bytes w64 c.args.number)) c.in-Some.ensures.1
    ∙ sym (place_some (c.args.last + 1) c.args.number c.in-Some.ensures.0)
