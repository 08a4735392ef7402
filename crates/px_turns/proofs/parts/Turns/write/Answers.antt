use Rattle.px_turns.specs.inner.Pending.{stamps_at}
use Rattle.px_turns.specs.Turns.{rows_dropped}
use Rattle.px_turns.proofs.Rows.{dropped_kept, same_kept}
use Rattle.px_turns.proofs.parts.Turns.write.Goals as goal

pub invariant_of-self : goal.invariant_of-self
invariant_of-self c =
    let v = c.args.self.now in
    record {
      kept = same_kept v.last (rows_dropped c.args.keys.now (stamps_at v.pending)) (stamps_at c.drop_all.new.self) c.drop_all.ensures (dropped_kept v.last c.args.keys.now (stamps_at v.pending) v.kept);
      undecided_up = v.undecided_up;
      unclosed_up = v.unclosed_up;
    }
