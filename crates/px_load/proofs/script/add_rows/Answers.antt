use Rattle.std.specs.String.{string_bytes}
use Rattle.px_load.proofs.Adding.{row_added}
use Rattle.px_load.proofs.Drawing.{one_row_more}
use Rattle.px_load.proofs.script.add_rows.Goals as goal

pub loop-place-preserved : goal.loop-place-preserved
loop-place-preserved c =
    let place = c.loop-place.place in
    let load = c.args.load in
    let before = c.loop-place.invariant in
    let drawn = c.loop-place.draws.number in
    record {
      drawn = one_row_more place load.number drawn c.add_row.new.draws.number before.drawn c.in_ok-add_row.ensures.goes_on;
      written = row_added (string_bytes c.args.text.now) (string_bytes c.loop-place.text) (string_bytes c.add_row.new.text) place load.rows load.number drawn before.written before.drawn c.in_ok-add_row.ensures.added;
    }
