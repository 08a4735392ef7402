use Rattle.px_commanding.proofs.Committing.{goes-on, is-over, waits}
use Rattle.px_commanding.proofs.commit.change.Goals as goal

pub returns-in-Stepped-clause-turns : goal.returns-in-Stepped-clause-turns
returns-in-Stepped-clause-turns g c = λ h f. goes-on g.S.Steps.sound h c.args.run c.step.new.self c.args.receipts _ _ f c.in-Stepped.ensures.table c.in-Stepped.ensures.changes c.in-Stepped.ensures.turns

pub returns-in-Waiting-clause-turns : goal.returns-in-Waiting-clause-turns
returns-in-Waiting-clause-turns g c = λ h f. waits g.S.Steps.sound h c.args.run c.step.new.self c.args.receipts _ _ _ f c.in-Waiting.ensures.table c.in-Waiting.ensures.changes c.in-Waiting.ensures.turns

pub returns-in-Over-clause-turns : goal.returns-in-Over-clause-turns
returns-in-Over-clause-turns g c = λ h f. is-over g.S.Steps.sound h c.args.run c.step.new.self c.args.receipts _ _ _ c.ended.result f c.in-Over.ensures.turns c.ended.ensures
