use Rattle.px_groupworld.specs.Group.{table_form}
use Rattle.px_groupworld.proofs.Fresh.{sound_group}
use Rattle.px_groupworld.proofs.law_sound.Goals as goal

pub returns : goal.returns
returns g c = λ b id index. sound_group (table_form b id index g.F.Formed.rows)
