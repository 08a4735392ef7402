use Rattle.px_groupworld.specs.Group.{table_form}
use Rattle.px_indexed.proofs.Idle.{act_idle}
use Rattle.px_tablesteps.proofs.Upkeep.{table_born, table_raised}
use Rattle.px_tablesteps.proofs.law_upkeep.Goals as goal

pub returns : goal.returns
returns g c = record {
  raises = λ b id index. table_raised (table_form b id index g.F.Formed.rows);
  bears = λ b id index es v hs k e may n. table_born (table_form b id index g.F.Formed.rows) es v hs k e may (act_idle id e n);
}
