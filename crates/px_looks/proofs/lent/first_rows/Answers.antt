use Rattle.std.proofs.Common.{◌+◌, ◌∙◌, ap, sym, refl, arith}
use Rattle.px_region.proofs.Given.{begins_first, row_none}
use Rattle.px_looks.proofs.Ends.{rows_over}
use Rattle.px_looks.proofs.lent.first_rows.Goals as goal

pub loop-end-init : goal.loop-end-init
loop-end-init c = record { within = omega arith; begins = λ lt. begins_first c.args.cells.now 0 refl; counted = sym (row_none c.args.cells.now); few = omega arith }

pub loop-end-preserved : goal.loop-end-preserved
loop-end-preserved c = record {
  within = c.row_end-end.ensures.within;
  begins = c.row_end-end.ensures.next;
  counted = ap (λ n. n + 1) c.loop-end.invariant.counted ∙ sym (rows_over c.args.cells.now c.loop-end.end c.row_end-end.result c.row_end-end.ensures.on (c.loop-end.invariant.begins c.loop-end-test.true) c.row_end-end.ensures.one);
  few = (let m = c.if-rows-most.true in omega arith);
}
