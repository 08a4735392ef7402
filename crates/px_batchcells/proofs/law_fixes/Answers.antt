use Rattle.px_groupworld.specs.Group.{table_form}
use Rattle.px_batchcells.proofs.FixesMade.{can_fix}
use Rattle.px_batchcells.proofs.law_fixes.Goals as goal

pub returns : goal.returns
returns g c = λ b id index. can_fix (table_form b id index g.F.Formed.rows)
