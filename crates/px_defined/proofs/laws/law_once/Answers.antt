use Rattle.px_defined.proofs.Once.{once_active, once_less, once_more, once_new, only_at}
use Rattle.px_defined.proofs.laws.law_once.Goals as goal

pub returns : goal.returns
returns c = record { only = only_at; made = once_new; born = once_more; active = once_active; dropped = once_less }
