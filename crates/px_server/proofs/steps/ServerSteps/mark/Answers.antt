use Rattle.px_server.proofs.Answered.{if_ok}
use Rattle.px_server.proofs.steps.ServerSteps.mark.Goals as goal

pub returns-clause-fewer : goal.returns-clause-fewer
returns-clause-fewer g c = if_ok _ _ c.mark.result (λ v fewer alone. fewer) c.mark.ensures.fewer
