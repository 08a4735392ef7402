use Rattle.px_groupworld.specs.Group.{table_form}
use Rattle.px_indexed.proofs.Idle.{act_idle}
use Rattle.px_tablesteps.proofs.Steps.{table_begun, table_ended, table_idle, table_mark, table_marked, table_verified, table_verify, table_wrote}
use Rattle.px_tablesteps.proofs.law_steps.Goals as goal

pub returns : goal.returns
returns g c = record {
  begins = λ b id index. table_begun (table_form b id index g.F.Formed.rows);
  marks = λ b id index. table_mark (table_form b id index g.F.Formed.rows);
  marked = λ b id index. table_marked (table_form b id index g.F.Formed.rows);
  writes = λ b id index. table_wrote (table_form b id index g.F.Formed.rows);
  verifies = λ b id index. table_verify (table_form b id index g.F.Formed.rows);
  verified = λ b id index. table_verified (table_form b id index g.F.Formed.rows);
  ends = λ b id index. table_ended (table_form b id index g.F.Formed.rows);
  idles = λ b id index es v hs k e may n. table_idle (table_form b id index g.F.Formed.rows) es v hs k e may (act_idle id e n);
}
