use Rattle.px_alone.proofs.Folding.{folds}
use Rattle.px_alone.proofs.laws.law_alone.Goals as goal

pub returns : goal.returns
returns g c = record { folds = λ k n m at to items sound alone quiet replied. folds g.S.Steps.sound sound k n m at to items alone quiet replied }
