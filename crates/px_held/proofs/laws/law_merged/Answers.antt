use Rattle.px_held.proofs.Applying.{merged-applies}
use Rattle.px_held.proofs.laws.law_merged.Goals as goal

pub returns : goal.returns
returns c = merged-applies
