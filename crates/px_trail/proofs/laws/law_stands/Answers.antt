use Rattle.px_trail.proofs.Standing.{catalogue-stands, shape-stays}
use Rattle.px_trail.proofs.laws.law_stands.Goals as goal

pub returns-clause-numbers : goal.returns-clause-numbers
returns-clause-numbers c b es k legal = catalogue-stands b es k legal

pub returns-clause-shapes : goal.returns-clause-shapes
returns-clause-shapes c b t es more legal low = shape-stays b t es more legal low
