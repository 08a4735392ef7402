use Rattle.px_region.proofs.Fresh.{fresh_holds}
use Rattle.px_region.proofs.laws.what_is_fresh_has_nothing.Goals as goal

pub returns : goal.returns
returns g c = λ number region disk fresh blank. fresh_holds g.D.Disk number region disk fresh blank
