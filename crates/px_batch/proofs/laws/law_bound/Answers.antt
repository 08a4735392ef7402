use Rattle.px_batch.proofs.Bounding.{at_most}
use Rattle.px_batch.proofs.laws.law_bound.Goals as goal

pub returns : goal.returns
returns c = λ n left os h. at_most n left os h
