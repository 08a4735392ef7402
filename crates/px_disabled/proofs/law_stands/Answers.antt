use Rattle.px_disabled.proofs.Agreeing.{agrees_disabled, agrees_rebuilt}
use Rattle.px_disabled.proofs.law_stands.Goals as goal

pub returns : goal.returns
returns c = record { gone = agrees_disabled; anew = agrees_rebuilt }
