use Rattle.std.proofs.Common.{◌+◌, get_or, drop}
use Rattle.px_bind.specs.Upserts.{given_faults, value_faults}
use Rattle.px_bind.proofs.Given.{given_step}
use Rattle.px_resolve.proofs.Walks.{stops}
use Rattle.px_bind.proofs.upserts.check_all_given.Goals as goal

pub returns-in-Err : goal.returns-in-Err
returns-in-Err c =
    stops (given_faults c.args.columns.now c.args.places.now c.args.values.now)
    (given_faults c.args.columns.now (drop c.loop-index.index c.args.places.now) (drop c.loop-index.index c.args.values.now))
    (value_faults c.args.columns.now (get_or c.args.places.now c.loop-index.index 0) c.index-values-index.result)
    (given_faults c.args.columns.now (drop (c.loop-index.index + 1) c.args.places.now) (drop (c.loop-index.index + 1) c.args.values.now)) c.in-Err.fault c.loop-index.invariant
    (given_step c.args.columns.now c.args.places.now c.args.values.now c.loop-index.index c.index-values-index.result c.loop-index-test.true c.requires c.index-values-index.is) c.in-Err.ensures
