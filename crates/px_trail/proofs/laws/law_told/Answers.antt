use Rattle.px_trail.proofs.Growth.{catalogue-snoc, shape-snoc, batch_of-snoc, last-snoc, horizon-snoc, points-snoc, closing-snoc, calls-snoc, begun-snoc, acknowledged-snoc}
use Rattle.px_trail.proofs.laws.law_told.Goals as goal

pub returns-clause-catalogue : goal.returns-clause-catalogue
returns-clause-catalogue c b es e = catalogue-snoc b es e

pub returns-clause-shape : goal.returns-clause-shape
returns-clause-shape c b es e t = shape-snoc b es e t

pub returns-clause-batch : goal.returns-clause-batch
returns-clause-batch c t s es e = batch_of-snoc t s es e

pub returns-clause-last : goal.returns-clause-last
returns-clause-last c b t es e = last-snoc b t es e

pub returns-clause-horizon : goal.returns-clause-horizon
returns-clause-horizon c b t es e = horizon-snoc b t es e

pub returns-clause-points : goal.returns-clause-points
returns-clause-points c seat t s es e = points-snoc seat t s es e

pub returns-clause-closing : goal.returns-clause-closing
returns-clause-closing c es e = closing-snoc es e

pub returns-clause-calls : goal.returns-clause-calls
returns-clause-calls c es e = calls-snoc es e

pub returns-clause-begins : goal.returns-clause-begins
returns-clause-begins c t r es e = begun-snoc t r es e

pub returns-clause-acknowledges : goal.returns-clause-acknowledges
returns-clause-acknowledges c t es e = acknowledged-snoc t es e
