use Rattle.px_plan.proofs.IndexRows.{index_answer, row_has_key}
use Rattle.px_plan.proofs.SomeAnswer.{some_answer}
use Rattle.px_plan.proofs.OneAnswer.{one_answer}
use Rattle.px_plan.proofs.laws.law_answer.Goals as goal

pub returns-clause-one : goal.returns-clause-one
returns-clause-one c = one_answer

pub returns-clause-same : goal.returns-clause-same
returns-clause-same c = λ rows q path other a b x y row. (λ h. (y.selected row).1 ((x.selected row).0 h), λ h. (x.selected row).1 ((y.selected row).0 h))

pub returns-clause-some : goal.returns-clause-some
returns-clause-some c = some_answer

pub returns-clause-keys : goal.returns-clause-keys
returns-clause-keys c = row_has_key

pub returns-clause-shown : goal.returns-clause-shown
returns-clause-shown c = index_answer
