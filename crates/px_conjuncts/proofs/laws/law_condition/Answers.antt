use Rattle.px_conjuncts.proofs.Conditions.{condition_is}
use Rattle.px_conjuncts.proofs.laws.law_condition.Goals as goal

pub returns : goal.returns
returns c = condition_is
