use Rattle.px_conjuncts.proofs.Rests.{conjuncts_are}
use Rattle.px_conjuncts.proofs.laws.law_paths.Goals as goal

pub returns : goal.returns
returns c = conjuncts_are
