use Rattle.px_deleting.proofs.Counting.{counted}
use Rattle.px_deleting.proofs.Whole.{are-current}
use Rattle.px_deleting.proofs.laws.law_removed.Goals as goal

pub returns-clause-counted : goal.returns-clause-counted
returns-clause-counted g c p k k' d m h legal e = counted g.S.Steps.sound p k k' d m h legal e

pub returns-clause-current : goal.returns-clause-current
returns-clause-current g c t filter k first acts cs h is = are-current g.S.Steps.sound t filter k first acts cs h is
