use Rattle.px_trail.specs.Batches.{rows_of}
use Rattle.std.proofs.Common.{take}
use Rattle.px_removals.proofs.Splitting.{fitting-front, fitting-rest, short-front, some-front, sorted-distinct, sorted-front, sorted-rest, split-more}
use Rattle.px_removals.proofs.laws.law_parts.Goals as goal

pub returns-clause-some : goal.returns-clause-some
returns-clause-some c cs h = some-front cs h

pub returns-clause-rows : goal.returns-clause-rows
returns-clause-rows c cs = short-front cs

pub returns-clause-distinct : goal.returns-clause-distinct
returns-clause-distinct c key cs h = sorted-distinct key (rows_of (take 1000 cs)) (sorted-front key 1000 cs h)

pub returns-clause-left : goal.returns-clause-left
returns-clause-left c key cs h = sorted-rest key 1000 cs h

pub returns-clause-fits : goal.returns-clause-fits
returns-clause-fits c k t cs h = fitting-front k t 1000 cs h

pub returns-clause-fits_left : goal.returns-clause-fits_left
returns-clause-fits_left c k t cs h = fitting-rest k t 1000 cs h

pub returns-clause-more : goal.returns-clause-more
returns-clause-more c cs parts left h some = split-more cs parts left h some
