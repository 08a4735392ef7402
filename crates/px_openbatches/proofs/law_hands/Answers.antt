use Rattle.px_groupworld.specs.Group.{table_form}
use Rattle.px_openbatches.proofs.Hands.{can_mark, can_verify, can_write}
use Rattle.px_openbatches.proofs.law_hands.Goals as goal

pub returns : goal.returns
returns g c = record {
  marks = λ b id index. can_mark (table_form b id index g.F.Formed.rows);
  writes = λ b id index. can_write (table_form b id index g.F.Formed.rows);
  closes = λ b id index. can_verify (table_form b id index g.F.Formed.rows);
}
