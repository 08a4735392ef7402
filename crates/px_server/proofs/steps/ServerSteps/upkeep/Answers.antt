use Rattle.std.proofs.Common.{◌∙◌}
use Rattle.px_server.proofs.Answered.{if_ok}
use Rattle.px_server.proofs.steps.ServerSteps.upkeep.Goals as goal

pub returns-clause-unlooked : goal.returns-clause-unlooked
returns-clause-unlooked g c = λ alone. c.upkeep.ensures.unlooked

pub returns-clause-still : goal.returns-clause-still
returns-clause-still g c = if_ok _ _ c.upkeep.result (λ w told alone sound p v is_open was. told p is_open v ∙ was) c.upkeep.ensures.doubts
