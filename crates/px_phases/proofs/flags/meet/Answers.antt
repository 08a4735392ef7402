use Rattle.std.proofs.Common.{arith, ap, ◌≡◌, ◌∙◌, ◌||◌, false, get_or, length, List}
use Rattle.px_values.specs.declared.change.Change.{Change}
use Rattle.px_trail.specs.Batches.{has, rows_of}
use Rattle.px_phases.proofs.Flagging.{no_change, meets_all}
use Rattle.px_phases.proofs.flags.meet.Goals as goal

pub returns : goal.returns
returns c =
    let n : length c.as_slice-changes.result.now ≡ length c.args.changes.now = ap (λ (l : List Change). length l) c.as_slice-changes.ensures in
    meets_all (rows_of c.args.others.now) c.args.flags.now c.loop-i.flags c.args.changes.now c.requires c.loop-i.auto.flags
    (λ k l. c.loop-i.invariant.done k (let m = c.loop-i-test.false in let q = c.requires in omega arith)
    ∙ ap (λ (cs : List Change). get_or c.args.flags.now k false || has (rows_of c.args.others.now) (get_or cs k no_change).row) c.as_slice-changes.ensures)
