use Rattle.px_indexed.proofs.Idle.{act_idle}
use Rattle.px_groupworld.specs.Group.{table_form}
use Rattle.px_groupworld.proofs.Entries.{group_raised}
use Rattle.px_groupworld.proofs.Cells.{group_base, group_fix, group_ready}
use Rattle.px_groupworld.proofs.Upkeep.{group_forgot, group_own_forgot}
use Rattle.px_groupworld.proofs.Births.{group_born}
use Rattle.px_groupworld.proofs.law_upkeep.Goals as goal

pub returns : goal.returns
returns g c = record {
  raises = λ b id index. group_raised (table_form b id index g.F.Formed.rows);
  forgets = λ b id index. group_forgot (table_form b id index g.F.Formed.rows);
  forgets_own = λ b id index. group_own_forgot (table_form b id index g.F.Formed.rows);
  bears = λ b id index es v k e may n. group_born (table_form b id index g.F.Formed.rows) es v k e may (act_idle id e n);
  bases = λ b id index. group_base (table_form b id index g.F.Formed.rows);
  readies = λ b id index. group_ready (table_form b id index g.F.Formed.rows);
  fixes = λ b id index. group_fix (table_form b id index g.F.Formed.rows);
}
