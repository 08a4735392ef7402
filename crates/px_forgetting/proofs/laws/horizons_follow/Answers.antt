use Rattle.px_forgetting.proofs.Horizons.{kept_again, kept_once, kept_stamps, kept_twice}
use Rattle.px_forgetting.proofs.laws.horizons_follow.Goals as goal

pub returns-clause-twice : goal.returns-clause-twice
returns-clause-twice c = λ cells kept more first second k later m. kept_twice cells kept more first second k later m

pub returns-clause-once : goal.returns-clause-once
returns-clause-once c = λ cells kept more first second k later m. kept_once cells kept more first second k later m

pub returns-clause-again : goal.returns-clause-again
returns-clause-again c = λ cells kept horizon k. kept_again cells kept horizon k

pub returns-clause-stamps : goal.returns-clause-stamps
returns-clause-stamps c = λ cells kept horizon cell k r. kept_stamps cells kept horizon cell k r
