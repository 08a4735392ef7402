use Rattle.std.proofs.Common.{◌+◌, None, Some, ap, drop}
use Rattle.std.specs.Option.{option_copied}
use Rattle.px_resolve.specs.Literals.{value_of_literal}
use Rattle.px_create.specs.Tables.{point_faults, points_faults}
use Rattle.px_resolve.proofs.Walks.{rest_is, stops}
use Rattle.px_create.proofs.splits.check_points.Goals as goal

pub returns-in-Err : goal.returns-in-Err
returns-in-Err c =
    stops (points_faults c.args.column None c.args.literals.now) (points_faults c.args.column (option_copied c.loop-index.before) (drop c.loop-index.index c.args.literals.now))
    (point_faults c.args.column (option_copied c.loop-index.before) c.index-literals-index.result)
    (points_faults c.args.column (Some (value_of_literal c.index-literals-index.result.constant)) (drop (c.loop-index.index + 1) c.args.literals.now)) c.in-Err.fault c.loop-index.invariant
    (ap (points_faults c.args.column (option_copied c.loop-index.before)) (rest_is c.args.literals.now c.loop-index.index c.index-literals-index.result c.loop-index-test.true c.index-literals-index.is)) c.in-Err.ensures
