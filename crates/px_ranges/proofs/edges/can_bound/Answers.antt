use Rattle.std.proofs.Common.{sym}
use Rattle.px_ranges.proofs.Places.{stands_as}
use Rattle.px_ranges.proofs.edges.can_bound.Goals as goal

pub returns-in-Text : goal.returns-in-Text
returns-in-Text c = rw c.in-Text.is (stands_as c.args.column _ c.can_stand.result (rw c.in-Text.is at c.can_stand.ensures))
