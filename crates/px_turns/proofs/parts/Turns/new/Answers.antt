use Rattle.px_turns.specs.inner.Pending.{stamps_at}
use Rattle.px_turns.proofs.Rows.{none_kept}
use Rattle.px_turns.proofs.parts.Turns.new.Goals as goal

pub invariant_of-result : goal.invariant_of-result
invariant_of-result c = record {
  kept = none_kept c.args.last (stamps_at c.new.result) c.new.ensures;
  undecided_up = λ s l. (c.new-2.ensures s).0;
  unclosed_up = λ s l. (c.new-2.ensures s).1;
}
