use Rattle.px_groupworld.specs.Group.{table_form}
use Rattle.px_groupworld.proofs.Queries.{group_answers}
use Rattle.px_groupworld.proofs.law_answers.Goals as goal

pub returns : goal.returns
returns g c = λ b id index. group_answers (table_form b id index g.F.Formed.rows)
