use Rattle.std.proofs.Common.{◌∙◌, subst}
use Rattle.px_planned.specs.declared.planned.Planned.{Planned}
use Rattle.px_select.specs.Selecting.{IsEnd}
use Rattle.px_select.proofs.Turning.{over-is}
use Rattle.px_select.proofs.run.SelectRun.step.Goals as goal

pub returns-in-Over-clause-turns : goal.returns-in-Over-clause-turns
returns-in-Over-clause-turns g c =
    over-is g.S.Steps.sound _ _ _ _ _ _ c.in-Over.end c.closed.result
    (subst (λ (p : Planned). IsEnd p.asked c.in-Over.end c.closed.result) (c.query-planned.ensures ∙ c.step.ensures.query) c.closed.ensures)
    c.in-Over.ensures.turns
