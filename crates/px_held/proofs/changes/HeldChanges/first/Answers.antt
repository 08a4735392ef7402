use Rattle.px_held.proofs.Batches.{one-batch}
use Rattle.px_held.proofs.changes.HeldChanges.first.Goals as goal

pub invariant_of-result : goal.invariant_of-result
invariant_of-result c = one-batch c.push.new.self.items c.args.change (search Rattle.std.proofs.Common.rules)
