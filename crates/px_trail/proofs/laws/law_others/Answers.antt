use Rattle.px_trail.proofs.Batches.{in-kept}
use Rattle.px_trail.proofs.Standing.{points-kept}
use Rattle.px_trail.proofs.laws.law_others.Goals as goal

pub returns-clause-batches : goal.returns-clause-batches
returns-clause-batches c b es others seat t s p legal apart i = in-kept b es others seat t s p legal apart i

pub returns-clause-points : goal.returns-clause-points
returns-clause-points c seat t s es others apart = points-kept seat t s es others apart
