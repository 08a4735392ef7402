use Rattle.px_server.proofs.Orders.{none_logged}
use Rattle.px_server.proofs.laws.law_flushed.Goals as goal

pub returns : goal.returns
returns g c = λ b es disk groups on ordered flushed. none_logged g.D.Disk disk on.folder groups on.on ordered flushed
