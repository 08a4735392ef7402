use Rattle.px_server.proofs.steps.ServerSteps.open_point.Goals as goal

pub returns-clause-unlooked : goal.returns-clause-unlooked
returns-clause-unlooked g c = λ alone. c.open_point.ensures.unlooked
