use Rattle.px_groupworld.specs.Group.{table_form}
use Rattle.px_tablereads.proofs.Tells.{written_seen}
use Rattle.px_tablereads.proofs.law_written.Goals as goal

pub returns : goal.returns
returns g c = λ b id index. written_seen (table_form b id index g.F.Formed.rows)
