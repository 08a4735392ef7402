use Rattle.px_server.proofs.Answered.{if_err, if_ok}
use Rattle.px_server.proofs.steps.ServerSteps.write.Goals as goal

pub returns-clause-fewer : goal.returns-clause-fewer
returns-clause-fewer g c = if_ok _ _ c.write.result (λ v fewer alone. fewer) c.write.ensures.fewer

pub returns-clause-no_more : goal.returns-clause-no_more
returns-clause-no_more g c = if_err _ _ c.write.result (λ f more alone stamp is. more stamp is) c.write.ensures.no_more
