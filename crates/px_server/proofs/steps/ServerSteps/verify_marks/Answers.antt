use Rattle.px_server.proofs.Answered.{if_ok}
use Rattle.px_server.proofs.steps.ServerSteps.verify_marks.Goals as goal

pub returns-clause-fewer : goal.returns-clause-fewer
returns-clause-fewer g c = if_ok _ _ c.verify_marks.result (λ v fewer alone. fewer) c.verify_marks.ensures.fewer
