use Rattle.px_region.proofs.Logged.{nothing_logged}
use Rattle.px_region.proofs.laws.what_is_flushed_is_not_logged.Goals as goal

pub returns : goal.returns
returns g c = λ region disk s holds ordered flushed. nothing_logged g.D.Disk region disk s holds ordered flushed
