use Rattle.px_defined.proofs.Pending.{pending}
use Rattle.px_defined.proofs.laws.law_pending.Goals as goal

pub returns : goal.returns
returns c = pending
