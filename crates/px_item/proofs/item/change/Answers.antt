use Rattle.px_item.proofs.Going.{change_goes_on, change_is_over}
use Rattle.px_item.proofs.item.change.Goals as goal

pub returns-in-Stepped-clause-turns : goal.returns-in-Stepped-clause-turns
returns-in-Stepped-clause-turns g c = λ before own f.
    let a = c.args in
    let t = c.in-Stepped.ensures.turns in
    let w = change_goes_on g.S.Steps.sound before a.asked own a.statement a.run c.step.new.self a.receipts _ _ t.acts f c.in-Stepped.ensures.table c.in-Stepped.ensures.changes t.ran t.fits t.told.0 t.told.1 (t.since before f.state.1.since) in
    record { acts = t.acts; ran = t.ran; told = (Rattle.std.proofs.Common.refl, w) }

pub returns-in-Waiting-clause-turns : goal.returns-in-Waiting-clause-turns
returns-in-Waiting-clause-turns g c = λ before own f.
    let a = c.args in
    let t = c.in-Waiting.ensures.turns in
    let w = change_goes_on g.S.Steps.sound before a.asked own a.statement a.run c.step.new.self a.receipts _ _ t.acts f c.in-Waiting.ensures.table c.in-Waiting.ensures.changes t.ran t.fits t.told.0 t.told.1 (t.since before f.state.1.since) in
    record { acts = t.acts; ran = t.ran; told = (Rattle.std.proofs.Common.refl, w) }

pub returns-in-Over-clause-turns : goal.returns-in-Over-clause-turns
returns-in-Over-clause-turns g c = λ before own f.
    let a = c.args in
    change_is_over g.S.Steps.sound before a.asked own a.statement a.run c.step.new.self a.receipts _ _ _ c.changed.result f c.in-Over.ensures.turns c.changed.ensures
