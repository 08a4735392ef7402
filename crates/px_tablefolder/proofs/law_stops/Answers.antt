use Rattle.px_groupworld.specs.Group.{table_form}
use Rattle.px_tablefolder.proofs.StepStops.{table_leaves, write_leaves}
use Rattle.px_tablefolder.proofs.law_stops.Goals as goal

pub returns : goal.returns
returns g c = record {
  now = λ b id index. table_leaves (table_form b id index g.F.Formed.rows);
  in_write = λ b id index. write_leaves (table_form b id index g.F.Formed.rows);
}
