use Rattle.std.proofs.Common.{None}
use Rattle.px_create.proofs.Points.{points_typed}
use Rattle.px_create.proofs.splits.least_keys.Goals as goal

pub add_split_keys-requires : goal.add_split_keys-requires
add_split_keys-requires c = let none = rw c.in-Some.is at c.requires in points_typed c.in-Some.first.column None c.args.literals.now none
