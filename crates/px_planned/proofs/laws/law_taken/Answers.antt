use Rattle.px_planned.proofs.Chosen.{taken_if, takes_as}
use Rattle.px_planned.proofs.Explained.{explained_is}
use Rattle.px_planned.proofs.laws.law_taken.Goals as goal

pub returns-clause-taken : goal.returns-clause-taken
returns-clause-taken c = λ a found stamp by. (λ h. taken_if a found stamp by h, λ h. takes_as a found stamp by h)

pub returns-clause-explained : goal.returns-clause-explained
returns-clause-explained c = λ q found point stamp p same h. explained_is q found point stamp p same h
