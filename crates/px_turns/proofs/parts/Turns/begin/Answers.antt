use Rattle.std.proofs.Common.{◌≤◌, arith, ap, ◌∙◌, Bool, false}
use Rattle.std.specs.Prelude.{nat_eq, if◌then◌else◌}
use Rattle.px_turns.specs.inner.Pending.{stamps_at, undecided_in, unclosed_in}
use Rattle.px_turns.specs.Turns.{rows_added}
use Rattle.px_turns.proofs.Rows.{kept_more, rows_kept, same_kept, up_added, up_back}
use Rattle.px_turns.proofs.parts.Turns.begin.Goals as goal

pub invariant_of-self-in-Ok : goal.invariant_of-self-in-Ok
invariant_of-self-in-Ok c =
    let v = c.args.self.now in
    let s = c.args.stamp in
    let l = c.requires in
    let le : v.last ≤ s = omega arith in
    record {
      kept = same_kept s (rows_added c.args.keys.now s (stamps_at v.pending)) (stamps_at c.add_all.new.self) c.in-Ok.ensures.ok (rows_kept s c.args.keys.now (stamps_at v.pending) (kept_more v.last s (stamps_at v.pending) le v.kept));
      undecided_up = up_added v.last s (undecided_in v.batches) (undecided_in c.open.new.self) l v.undecided_up c.in_ok-open.ensures.undecided;
      unclosed_up = up_added v.last s (unclosed_in v.batches) (unclosed_in c.open.new.self) l v.unclosed_up c.in_ok-open.ensures.unclosed;
    }

pub invariant_of-self-in-Err : goal.invariant_of-self-in-Err
invariant_of-self-in-Err c =
    let v = c.args.self.now in
    let s = c.args.stamp in
    let l = c.requires in
    record {
      kept = same_kept v.last (stamps_at v.pending) (stamps_at c.add_all.new.self) c.in-Err.ensures.err v.kept;
      undecided_up = up_back v.last s (undecided_in v.batches) (undecided_in c.open.new.self) (undecided_in c.close.new.self) l v.undecided_up c.in_ok-open.ensures.undecided (λ u. c.close.ensures.undecided u ∙ c.decide.ensures.undecided u);
      unclosed_up = up_back v.last s (unclosed_in v.batches) (unclosed_in c.open.new.self) (unclosed_in c.close.new.self) l v.unclosed_up c.in_ok-open.ensures.unclosed (λ u. c.close.ensures.unclosed u ∙ ap (λ (x : Bool). if nat_eq s u then false else x) (c.decide.ensures.unclosed u));
    }
