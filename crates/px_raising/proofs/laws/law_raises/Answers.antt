use Rattle.px_raising.proofs.Raises.{may_raise}
use Rattle.px_raising.proofs.laws.law_raises.Goals as goal

pub returns : goal.returns
returns c = record { may_raise = may_raise }
