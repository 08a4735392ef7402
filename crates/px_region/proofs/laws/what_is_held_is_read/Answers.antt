use Rattle.px_region.proofs.Holding.{store_is_all}
use Rattle.px_region.proofs.laws.what_is_held_is_read.Goals as goal

pub returns : goal.returns
returns g c = λ region disk s holds. store_is_all g.D.Disk region disk s holds
