use Rattle.px_calls.proofs.Points.{adds-opened, passes-open, ran-open}
use Rattle.px_calls.proofs.laws.law_points.Goals as goal

pub returns-clause-opens : goal.returns-clause-opens
returns-clause-opens c k k' p scn h = adds-opened k k' p scn h

pub returns-clause-others : goal.returns-clause-others
returns-clause-others c k k' p h was = passes-open k k' p h was

pub returns-clause-stays : goal.returns-clause-stays
returns-clause-stays c k k' acts p h quiet was = ran-open k k' acts p h quiet was
