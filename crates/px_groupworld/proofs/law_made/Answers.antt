use Rattle.px_groupworld.specs.Group.{table_form}
use Rattle.px_groupworld.proofs.Makes.{group_made}
use Rattle.px_groupworld.proofs.law_made.Goals as goal

pub returns : goal.returns
returns g c = λ b id index. group_made (table_form b id index g.F.Formed.rows)
