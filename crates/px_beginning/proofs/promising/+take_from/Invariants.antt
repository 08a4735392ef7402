use Rattle.std.proofs.Common.{◌-◌, length}
use Rattle.px_beginning.proofs.promising.+take_from.Given as goal

abbrev pub decreases-take_from : goal.decreases-take_from
decreases-take_from l = length l.indexes.now - l.place
