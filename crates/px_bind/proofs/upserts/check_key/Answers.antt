use Rattle.std.proofs.Common.{get_or}
use Rattle.std.proofs.lemmas.List.{get_or_default}
use Rattle.px_values.specs.declared.order.Direction.TheVariants.{Ascending}
use Rattle.px_bind.specs.Upserts.{null_key}
use Rattle.px_resolve.proofs.Walks.{flat_stops}
use Rattle.px_bind.proofs.upserts.check_key.Goals as goal

pub returns-in-Err : goal.returns-in-Err
returns-in-Err c =
    flat_stops (null_key c.args.columns.now c.args.places.now c.args.values.now) c.args.key.now c.loop-part.part-index
    (get_or c.args.key.now c.loop-part.part-index record { column = 0; direction = Ascending }) c.in-Err.fault c.loop-part.invariant c.loop-part-test.true (get_or_default c.args.key.now c.loop-part.part-index record { column = 0; direction = Ascending } _ c.loop-part-test.true) c.in-Err.ensures
