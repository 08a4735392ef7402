use Rattle.std.proofs.Common.{Result, ◌∙◌, subst, sym}
use Rattle.px_plan.specs.Plans.{AnswersPlan}
use Rattle.px_plan.specs.declared.plan.Plan.{Plan}
use Rattle.px_plan.specs.declared.plan.PlanFault.{PlanFault}
use Rattle.px_plan.proofs.Planned.{answers_from}
use Rattle.px_plan.proofs.choosing.choose.Goals as goal
use Rattle.px_plan.proofs.choosing.choose.Goals.{in-Ok-take_apart, in-Err-take_apart}

pub returns : goal.returns
returns c =
    let found = c.args.found.now in
    let q = c.args.query in
    elim c.match-take_apart.branch [
      | in-Ok-take_apart w ↦ subst (λ (r : Result Plan PlanFault). AnswersPlan found c.args.point q r) (sym w.plan-is) (answers_from found c.args.point q w.in-Ok-take_apart.asked w.as_slice.result.now w.plan_asked-plan.result w.in-Ok-take_apart.ensures (w.as_slice.ensures.value ∙ c.in-Ok.ensures) w.plan_asked-plan.ensures)
      | in-Err-take_apart w ↦ subst (λ (r : Result Plan PlanFault). AnswersPlan found c.args.point q r) (sym w.plan-is) tt
    ]
