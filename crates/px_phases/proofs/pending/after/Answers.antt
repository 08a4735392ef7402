use Rattle.std.proofs.Common.{◌≡◌, Some, rules}
use Rattle.px_phases.specs.Batch.{left_in}
use Rattle.px_phases.proofs.Left.{left_fits}
use Rattle.px_phases.proofs.pending.after.Goals as goal

pub changed-new-requires-clause-fits : goal.changed-new-requires-clause-fits
changed-new-requires-clause-fits c =
    let is : left_in c.args.batch.now c.args.row.now ≡ Some c.in-Some.what.now = search rules in
    left_fits c.args.table.now c.args.batch.now c.args.row.now c.in-Some.what.now c.requires.fit is
