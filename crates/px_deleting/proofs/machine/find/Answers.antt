use Rattle.std.proofs.Common.{subst, ◌∙◌}
use Rattle.px_planned.specs.declared.planned.Planned.{Planned}
use Rattle.px_deleting.specs.inner.Going.{IsAfterAnswer}
use Rattle.px_deleting.proofs.Going.{answered, finds-none, finds-on, finds-waiting}
use Rattle.px_deleting.proofs.machine.find.Goals as goal

pub returns-in-Stepped-clause-turns : goal.returns-in-Stepped-clause-turns
returns-in-Stepped-clause-turns g c = λ p f. finds-on g.S.Steps.sound p _ _ c.args.run c.step.new.self c.in-Stepped.ensures.planned c.in-Stepped.ensures.scn f c.in-Stepped.ensures.turns

pub returns-in-Waiting-clause-turns : goal.returns-in-Waiting-clause-turns
returns-in-Waiting-clause-turns g c = λ p f. finds-waiting g.S.Steps.sound p _ _ c.args.run c.step.new.self _ c.in-Waiting.ensures.planned c.in-Waiting.ensures.scn f c.in-Waiting.ensures.turns

pub returns-in-Over-Ok-clause-turns : goal.returns-in-Over-Ok-clause-turns
returns-in-Over-Ok-clause-turns g c = λ p f.
    answered g.S.Steps.sound p _ _ c.args.run _ c.in-Over-Ok.selected _ _ f (rw c.in-Over-Ok.field-0-is at c.in-Over-Ok.ensures.turns)
    (subst (λ (w : Planned). IsAfterAnswer w c.in-Over-Ok.selected c.found-next.result.0 c.found-next.result.1) (c.step.ensures.planned ∙ f.planned) c.found-next.ensures)

pub returns-in-Over-Err-clause-turns : goal.returns-in-Over-Err-clause-turns
returns-in-Over-Err-clause-turns g c = λ p f.
    finds-none g.S.Steps.sound p _ _ c.args.run _ c.in-Over-Err.fault _ f (rw c.in-Over-Err.field-0-is at c.in-Over-Err.ensures.turns) c.unread.ensures
