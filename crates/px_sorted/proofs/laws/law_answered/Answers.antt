use Rattle.px_sorted.proofs.Ascending.{is_answer}
use Rattle.px_sorted.proofs.laws.law_answered.Goals as goal

pub returns : goal.returns
returns c = is_answer
