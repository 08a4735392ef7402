use Rattle.px_server.proofs.Answered.{if_ok}
use Rattle.px_server.proofs.RowsLooked.{same_rows}
use Rattle.px_server.proofs.steps.ServerSteps.look.Goals as goal

pub returns-clause-unlooked : goal.returns-clause-unlooked
returns-clause-unlooked g c = λ alone i by. same_rows c.args.self.now.groups c.look.new.self.groups (c.look.ensures.no_row i by)

pub returns-clause-looked_each : goal.returns-clause-looked_each
returns-clause-looked_each g c = if_ok _ _ c.look.result (λ v risen alone by. risen by) c.look.ensures.risen

pub returns-clause-doubts : goal.returns-clause-doubts
returns-clause-doubts g c = if_ok _ _ c.look.result (λ v found alone sound. found) c.look.ensures.doubts
