use Rattle.std.proofs.Common.{◌≤◌, arith}
use Rattle.px_turns.specs.inner.Pending.{stamps_at, undecided_in, unclosed_in}
use Rattle.px_turns.proofs.Rows.{kept_more, up_more}
use Rattle.px_turns.proofs.parts.Turns.draw.Goals as goal

pub invariant_of-self : goal.invariant_of-self
invariant_of-self c =
    let v = c.args.self.now in
    let l = c.requires in
    let le : v.last ≤ c.args.stamp = omega arith in
    record {
      kept = kept_more v.last c.args.stamp (stamps_at v.pending) le v.kept;
      undecided_up = up_more v.last c.args.stamp (undecided_in v.batches) le v.undecided_up;
      unclosed_up = up_more v.last c.args.stamp (unclosed_in v.batches) le v.unclosed_up;
    }
