use Rattle.px_groupworld.specs.Group.{table_form}
use Rattle.px_tablefolder.proofs.Files.{files_are}
use Rattle.px_tablefolder.proofs.law_folder.Goals as goal

pub returns : goal.returns
returns g c = λ b id index. files_are (table_form b id index g.F.Formed.rows)
