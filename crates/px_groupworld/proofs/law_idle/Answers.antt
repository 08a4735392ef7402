use Rattle.px_indexed.proofs.Idle.{act_idle}
use Rattle.px_groupworld.specs.Group.{table_form}
use Rattle.px_groupworld.proofs.Entries.{group_idle}
use Rattle.px_groupworld.proofs.law_idle.Goals as goal

pub returns : goal.returns
returns g c = λ b id index es v k e may n. group_idle (table_form b id index g.F.Formed.rows) es v k e may (act_idle id e n)
