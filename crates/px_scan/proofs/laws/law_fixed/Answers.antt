use Rattle.px_scan.proofs.Mending.{fixed_from_new}
use Rattle.px_scan.proofs.laws.law_fixed.Goals as goal

pub returns : goal.returns
returns g c = λ q scn f s k os new h a u e. fixed_from_new g.S.Steps.sound q scn f s k os new h a u e
