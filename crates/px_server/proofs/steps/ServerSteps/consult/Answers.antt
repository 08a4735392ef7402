use Rattle.std.proofs.Common.{◌∙◌}
use Rattle.px_server.proofs.steps.ServerSteps.consult.Goals as goal

pub returns-clause-looked_once : goal.returns-clause-looked_once
returns-clause-looked_once g c = λ alone. c.consult.ensures.counted

pub returns-clause-still : goal.returns-clause-still
returns-clause-still g c = λ alone p v is_open was. c.consult.ensures.doubts p v ∙ was
