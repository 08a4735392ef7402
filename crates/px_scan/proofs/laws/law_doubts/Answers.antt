use Rattle.px_scan.proofs.Chaining.{settled}
use Rattle.px_scan.proofs.laws.law_doubts.Goals as goal

pub returns : goal.returns
returns g c = λ q scn x r d k os h u e. settled g.S.Steps.sound q scn x r d k os h u e
