use Rattle.std.proofs.Common.{refl, ◌∙◌, ap}
use Rattle.px_planned.specs.declared.planned.Planned.{Planned}
use Rattle.px_item.proofs.Sought.{seek_goes_on, seek_is_over}
use Rattle.px_item.proofs.seeking.gather.Goals as goal

pub returns-in-Stepped-clause-turns : goal.returns-in-Stepped-clause-turns
returns-in-Stepped-clause-turns g c = λ before own f.
    let a = c.args in
    let t = c.in-Stepped.ensures.turns in
    let w = seek_goes_on g.S.Steps.sound before a.asked own a.statement a.run c.step.new.self _ _ t.acts f c.in-Stepped.ensures.planned c.in-Stepped.ensures.scn t.ran t.fits t.told.0 (t.since a.asked.first f.state.1.since) t.told.1 in
    record { acts = t.acts; ran = t.ran; told = (refl, w) }

pub returns-in-Waiting-clause-turns : goal.returns-in-Waiting-clause-turns
returns-in-Waiting-clause-turns g c = λ before own f.
    let a = c.args in
    let t = c.in-Waiting.ensures.turns in
    let w = seek_goes_on g.S.Steps.sound before a.asked own a.statement a.run c.step.new.self _ _ t.acts f c.in-Waiting.ensures.planned c.in-Waiting.ensures.scn t.ran t.fits t.told.0 (t.since a.asked.first f.state.1.since) t.told.1 in
    record { acts = t.acts; ran = t.ran; told = (refl, w) }

pub returns-in-Over-clause-turns : goal.returns-in-Over-clause-turns
returns-in-Over-clause-turns g c = λ before own f.
    let a = c.args in
    let of = ap (λ (p : Planned). p.table) (c.planned.ensures ∙ c.in-Over.ensures.planned) in
    seek_is_over g.S.Steps.sound before a.asked own a.statement a.run c.step.new.self _ _ c.planned.result.now.table _ c.sought-answered.result f c.in-Over.ensures.turns of c.sought-answered.ensures
