use Rattle.px_conjuncts.proofs.Ranged.{leading_is_for}
use Rattle.px_conjuncts.proofs.laws.law_ranged.Goals as goal

pub returns : goal.returns
returns c = leading_is_for
