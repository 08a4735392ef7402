use Rattle.px_load.proofs.Readable.{readable}
use Rattle.px_load.proofs.laws.law_load.Goals as goal

pub returns : goal.returns
returns c load few = readable load few
