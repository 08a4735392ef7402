use Rattle.std.proofs.Common.{◌+◌, ap, arith, length, refl, sym, subst}
use Rattle.px_region.proofs.Given.{begins_first, row_none, rows_rise}
use Rattle.px_looks.specs.inner.Among.{FoundAmong}
use Rattle.px_looks.proofs.Among.{found_none}
use Rattle.px_looks.proofs.Ends.{found_over}
use Rattle.px_looks.proofs.reader.find_all.Goals as goal

pub loop-i-init : goal.loop-i-init
loop-i-init g c =
    let l = ap length c.new-found.ensures.items in
    let r = row_none c.args.cells.now in
    record {
      found = subst (FoundAmong (g.R.Reader.shows c.args.reader.now) c.args.cells.now 0) (sym c.new-found.ensures.items) (found_none (g.R.Reader.shows c.args.reader.now) c.args.cells.now);
      few = omega arith;
      within = omega arith;
      begins = λ lt. begins_first c.args.cells.now 0 refl;
    }

pub loop-i-preserved : goal.loop-i-preserved
loop-i-preserved g c =
    let on = c.row_end-end.ensures.on in
    record {
      found = found_over (g.R.Reader.shows c.args.reader.now) c.args.cells.now (c.loop-i.i + 1) c.row_end-end.result c.add_found.new.found.items (omega arith) (λ j from to. c.row_end-end.ensures.one j (omega arith) to) (c.in_ok-add_found.ensures.found c.loop-i.invariant.found);
      few = (let f = c.in_ok-add_found.ensures.few c.loop-i.invariant.few in let r = rows_rise c.args.cells.now (c.loop-i.i + 1) c.row_end-end.result (omega arith) in omega arith);
      within = c.row_end-end.ensures.within;
      begins = c.row_end-end.ensures.next;
    }
