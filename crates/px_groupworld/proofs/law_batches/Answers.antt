use Rattle.px_groupworld.specs.Group.{table_form}
use Rattle.px_groupworld.proofs.Entries.{group_begun, group_marked, group_wrote, group_verified_all, group_ended}
use Rattle.px_groupworld.proofs.Cells.{group_mark, group_verify}
use Rattle.px_groupworld.proofs.law_batches.Goals as goal

pub returns : goal.returns
returns g c = record {
  begins = λ b id index. group_begun (table_form b id index g.F.Formed.rows);
  marks = λ b id index. group_mark (table_form b id index g.F.Formed.rows);
  marked = λ b id index. group_marked (table_form b id index g.F.Formed.rows);
  writes = λ b id index. group_wrote (table_form b id index g.F.Formed.rows);
  verifies = λ b id index. group_verify (table_form b id index g.F.Formed.rows);
  verified = λ b id index. group_verified_all (table_form b id index g.F.Formed.rows);
  ends = λ b id index. group_ended (table_form b id index g.F.Formed.rows);
}
