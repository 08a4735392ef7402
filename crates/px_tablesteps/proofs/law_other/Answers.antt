use Rattle.px_groupworld.specs.Group.{table_form}
use Rattle.px_tablesteps.proofs.Steps.{table_regions}
use Rattle.px_tablesteps.proofs.law_other.Goals as goal

pub returns : goal.returns
returns g c = λ b id index es v hs k e now s q. table_regions (table_form b id index g.F.Formed.rows) es v hs k e now s q.births q.opens q.numbers q.born
