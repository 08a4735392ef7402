use Rattle.px_groupworld.specs.Group.{table_form}
use Rattle.px_tablefolder.proofs.TableStops.{folder_again, folder_kept}
use Rattle.px_tablefolder.proofs.law_again.Goals as goal

pub returns : goal.returns
returns g c = record {
  kept = λ b id index. folder_kept (table_form b id index g.F.Formed.rows);
  same = λ b id index. folder_again (table_form b id index g.F.Formed.rows);
}
