use Rattle.px_frozen.proofs.Coming.{frozen_more}
use Rattle.px_frozen.proofs.laws.a_later_batch_is_none_of_it.Goals as goal

pub returns : goal.returns
returns c = frozen_more
