use Rattle.px_groupworld.specs.Group.{table_form}
use Rattle.px_tablereads.proofs.Fates.{new_seen, state_seen, undecided_is}
use Rattle.px_tablereads.proofs.law_told.Goals as goal

pub returns : goal.returns
returns g c = record {
  undecided = λ b id index. undecided_is (table_form b id index g.F.Formed.rows);
  state = λ b id index. state_seen (table_form b id index g.F.Formed.rows);
  new = λ b id index. new_seen (table_form b id index g.F.Formed.rows);
}
