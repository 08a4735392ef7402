use Rattle.px_scan.proofs.Looking.{at_most}
use Rattle.px_scan.proofs.laws.law_looks.Goals as goal

pub returns : goal.returns
returns g c = λ m s os new h. at_most g.S.Steps.sound m s os new h
