use Rattle.px_file.proofs.Kept.{left_stands}
use Rattle.px_file.proofs.laws.a_file_stands.Goals as goal

pub returns : goal.returns
returns g c = left_stands g.D.Disk
