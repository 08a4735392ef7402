use Rattle.std.proofs.Common.{◌+◌, ◌-◌, drop, length, refl, take, arith}
use Rattle.std.proofs.lemmas.List.{take_rest}
use Rattle.px_forgetting.proofs.Rows.{rest_apart, rest_ascending, rest_within, row_list, rows_done, rows_more}
use Rattle.px_forgetting.proofs.keeping.keep_rows.Goals as goal

pub row_len-requires-clause-sorted : goal.row_len-requires-clause-sorted
row_len-requires-clause-sorted c = rest_ascending c.loop-at.at c.args.cells.now c.loop-at.cells c.requires c.loop-at.invariant.rest

pub keep_row-requires-clause-sorted : goal.keep_row-requires-clause-sorted
keep_row-requires-clause-sorted c =
    let cells = c.loop-at.cells in
    let at = c.loop-at.at in
    row_list c.args.horizon c.args.cells.now cells at c.loop-at.kept c.requires c.loop-at.invariant (at + c.row_len.result) (let s = c.row_len.ensures.since in omega arith)
    (rest_within at c.row_len.result cells c.loop-at-test.true c.row_len.ensures.within)

pub loop-at-preserved : goal.loop-at-preserved
loop-at-preserved c =
    let cells = c.loop-at.cells in
    let at = c.loop-at.at in
    let r = c.row_len.result in
    rows_more c.args.horizon c.args.cells.now cells at c.loop-at.kept c.requires c.loop-at.invariant (at + r) (let s = c.row_len.ensures.since in omega arith) (rest_within at r cells c.loop-at-test.true c.row_len.ensures.within)
    (rest_apart at r (at + r) cells (take (length cells - at) (drop at cells)) (take_rest cells at) refl c.row_len.ensures.apart) c.keep_row.new.part _ c.in_ok-kept.field-0 c.in_ok-kept.ensures.len c.in_ok-kept.ensures.within c.in_ok-kept.ensures.kept refl

pub returns : goal.returns
returns c = rows_done c.args.horizon c.args.cells.now c.loop-at.cells c.loop-at.at c.loop-at.kept c.loop-at.invariant (let t = c.loop-at-test.false in omega arith)
