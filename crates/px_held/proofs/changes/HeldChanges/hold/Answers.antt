use Rattle.px_trail.specs.Trail.{table_shape}
use Rattle.px_held.proofs.Batches.{batch-after}
use Rattle.px_held.proofs.changes.HeldChanges.hold.Goals as goal

pub invariant_of-self : goal.invariant_of-self
invariant_of-self c = batch-after (table_shape c.args.table.now) c.self.inside.changes.items c.hold.new.held.items c.args.change c.hold.result c.self.invariant c.hold.ensures.ok c.hold.ensures.err c.hold.ensures.rows
