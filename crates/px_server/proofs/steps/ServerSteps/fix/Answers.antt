use Rattle.std.proofs.Common.{◌∙◌}
use Rattle.px_server.proofs.Answered.{if_err, if_ok}
use Rattle.px_server.proofs.steps.ServerSteps.fix.Goals as goal

pub returns-clause-looked_once : goal.returns-clause-looked_once
returns-clause-looked_once g c = λ alone. c.fix.ensures.counted

pub returns-clause-there : goal.returns-clause-there
returns-clause-there g c = if_ok _ _ c.fix.result (λ w told alone sound p is_open had. told p had) c.fix.ensures.there

pub returns-clause-others : goal.returns-clause-others
returns-clause-others g c = if_ok _ _ c.fix.result (λ w told alone sound p v is_open apart was. told sound p v apart ∙ was) c.fix.ensures.others

pub returns-clause-still : goal.returns-clause-still
returns-clause-still g c = if_err _ _ c.fix.result (λ f told alone room p v is_open was. told room p v ∙ was) c.fix.ensures.still
