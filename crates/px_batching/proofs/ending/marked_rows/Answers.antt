use Rattle.std.proofs.Common.{◌<◌, ◌≤◌, ◌+◌, ◌++◌, [], drop, length, take, ap, sym, ◌∙◌, arith}
use Rattle.px_openbatches.specs.Pending.{flagged}
use Rattle.px_batching.proofs.Marked.{goes_at, marks_end, none_at, stays_at}
use Rattle.px_batching.proofs.ending.marked_rows.Goals.{then-i-len+then-mark, then-i-len+else-mark, else-i-len}
use Rattle.px_batching.proofs.ending.marked_rows.Goals as goal

pub loop-i-preserved : goal.loop-i-preserved
loop-i-preserved c =
    let o = c.loop-i.rows.ok.0 in
    let e = c.len.ensures in
    let b = c.loop-i.invariant.behind in
    elim c.if-i-len.branch [
      | then-i-len+then-mark w ↦
          (let t = w.if-i-len.true in
          let l : c.loop-i.i < length c.loop-i.rows.items = omega arith in
          let n = w.next-is in
          let items = ap (λ v. v.items) w.rows-is in
          record {
            behind = omega arith;
            so_far = (λ j. take (w.next-is j) (items j) ++ flagged (drop (c.loop-i.i + 1) c.args.marks.now) (drop (c.loop-i.i + 1) (items j)))
                ∙ (stays_at c.loop-i.rows.items _ c.loop-i.next c.loop-i.i b l [] (w.swap.ensures.by_index.3 []) c.args.marks.now _ c.loop-i-test.true w.if-mark.true ∙ c.loop-i.invariant.so_far);
          })
      | then-i-len+else-mark w ↦
          (let t = w.if-i-len.true in
          let l : c.loop-i.i < length c.loop-i.rows.items = omega arith in
          let n = w.next-is in
          record {
            behind = omega arith;
            so_far = (λ j. take (w.next-is j) (w.rows-is j).items ++ flagged (drop (c.loop-i.i + 1) c.args.marks.now) (drop (c.loop-i.i + 1) (w.rows-is j).items))
                ∙ (goes_at c.args.marks.now c.loop-i.i _ c.loop-i-test.true w.if-mark.false c.loop-i.rows.items c.loop-i.next l ∙ c.loop-i.invariant.so_far);
          })
      | else-i-len w ↦
          (let t = w.if-i-len.false in
          let l : length c.loop-i.rows.items ≤ c.loop-i.i = omega arith in
          let n = w.next-is in
          record {
            behind = omega arith;
            so_far = (λ j. take (w.next-is j) (w.rows-is j).items ++ flagged (drop (c.loop-i.i + 1) c.args.marks.now) (drop (c.loop-i.i + 1) (w.rows-is j).items))
                ∙ (none_at c.args.marks.now c.loop-i.i c.loop-i.rows.items c.loop-i.next l ∙ c.loop-i.invariant.so_far);
          })
    ]

pub returns : goal.returns
returns c = c.of.ensures ∙ (c.truncate.ensures.items ∙ (sym (marks_end c.args.marks.now c.loop-i.i c.loop-i.rows.items c.loop-i.next c.loop-i-test.false) ∙ c.loop-i.invariant.so_far))
