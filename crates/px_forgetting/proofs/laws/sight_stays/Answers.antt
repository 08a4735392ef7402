use Rattle.px_merge.proofs.Sight.{sight_same}
use Rattle.px_forgetting.proofs.Horizons.{kept_puts}
use Rattle.px_forgetting.proofs.laws.sight_stays.Goals as goal

pub returns-clause-same : goal.returns-clause-same
returns-clause-same c = λ cells kept horizon point p k since. sight_same cells kept horizon point p k.exact since

pub returns-clause-puts : goal.returns-clause-puts
returns-clause-puts c = λ cells kept horizon cell k r low. kept_puts cells kept horizon cell k r low
