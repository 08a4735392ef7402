use Rattle.px_merge.specs.Merged.{joined}
use Rattle.px_merge.proofs.Settling.{settle_is, settle_same, settle_sorted, settle_part, settled_is}
use Rattle.px_merge.proofs.Sources.{settled_from_merged}
use Rattle.px_merge.proofs.laws.settled_is_one.Goals as goal

pub returns-clause-itself : goal.returns-clause-itself
returns-clause-itself c = settle_is

pub returns-clause-same : goal.returns-clause-same
returns-clause-same c = settle_same

pub returns-clause-sorted : goal.returns-clause-sorted
returns-clause-sorted c = settle_sorted

pub returns-clause-part : goal.returns-clause-part
returns-clause-part c = settle_part

pub returns-clause-merged : goal.returns-clause-merged
returns-clause-merged c = λ sources merged is. settled_is (joined sources) merged (settled_from_merged sources merged is)
