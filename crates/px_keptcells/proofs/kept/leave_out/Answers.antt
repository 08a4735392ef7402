use Rattle.std.proofs.Common.{◌+◌, ◌++◌, ◌∙◌, ap, arith, drop, get_or, length, sym, take}
use Rattle.px_keptcells.proofs.Rows.{left, none_left, row_goes, row_stays, sum_left}
use Rattle.px_keptcells.proofs.kept.leave_out.Goals.{then-not-is_marked, else-not-is_marked}
use Rattle.px_keptcells.proofs.kept.leave_out.Goals as goal

pub loop-row-preserved : goal.loop-row-preserved
loop-row-preserved c =
    let vs = c.args.marks.now in
    let counts = c.args.counts.now in
    let cells = c.loop-row.cells.items in
    let r = c.loop-row.row in
    let i = c.loop-row.invariant in
    let b = i.before in
    let k = i.counted in
    let t = c.loop-row-test.true in
    let s = sum_left counts r t in
    elim c.if-not-is_marked.branch [
      | then-not-is_marked w ↦
          (let n = w.next-is in
          let l = w.move_row.ensures.len in
          let items = ap (λ v. v.items) w.cells-is in
          let e = ap (λ v. length v.items) w.cells-is in
          record {
            before = omega arith;
            counted = omega arith;
            so_far = (λ j. take (w.next-is j) (items j) ++ left (r + 1) vs counts (drop (c.loop-row.at + get_or counts r 0) (items j)))
                ∙ (row_stays vs counts cells w.move_row.new.cells.items r c.loop-row.next c.loop-row.at t (sym w.if-not-is_marked.ensures) w.move_row.ensures.front w.move_row.ensures.rest ∙ i.so_far);
          })
      | else-not-is_marked w ↦
          (let n = w.next-is in
          let items = ap (λ v. v.items) w.cells-is in
          let e = ap (λ v. length v.items) w.cells-is in
          record {
            before = omega arith;
            counted = omega arith;
            so_far = (λ j. take (w.next-is j) (items j) ++ left (r + 1) vs counts (drop (c.loop-row.at + get_or counts r 0) (items j)))
                ∙ (ap (λ x. take c.loop-row.next cells ++ x) (row_goes vs counts cells r c.loop-row.at t (sym w.if-not-is_marked.ensures)) ∙ i.so_far);
          })
    ]

pub returns : goal.returns
returns c = c.truncate.ensures.items ∙ (sym (none_left c.args.marks.now c.args.counts.now c.loop-row.cells.items c.loop-row.row c.loop-row.next c.loop-row.at c.loop-row-test.false) ∙ c.loop-row.invariant.so_far)
