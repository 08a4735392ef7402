use Rattle.px_server.proofs.Answered.{if_ok}
use Rattle.px_server.proofs.steps.ServerSteps.begin.Goals as goal

pub returns-clause-few : goal.returns-clause-few
returns-clause-few g c = if_ok _ _ c.begin.result (λ t few alone. few) c.begin.ensures.few
