use Rattle.px_groupworld.specs.Group.{table_form}
use Rattle.px_tablesteps.proofs.Steps.{receipt_closed}
use Rattle.px_tablesteps.proofs.law_receipt.Goals as goal

pub returns : goal.returns
returns g c = λ b id index. receipt_closed (table_form b id index g.F.Formed.rows)
