use Rattle.px_scan.proofs.Bounding.{at_most}
use Rattle.px_scan.proofs.laws.law_bound.Goals as goal

pub returns : goal.returns
returns g c = λ s os new h. at_most g.S.Steps.sound s os new h
