use Rattle.px_server.proofs.steps.ServerSteps.close_point.Goals as goal

pub returns-clause-unlooked : goal.returns-clause-unlooked
returns-clause-unlooked g c = λ alone. c.close_point.ensures.unlooked
