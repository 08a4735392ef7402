use Rattle.std.proofs.Common.{refl}
use Rattle.px_item.proofs.Going.{define_goes_on, define_is_over}
use Rattle.px_item.proofs.Built.{define_made}
use Rattle.px_item.proofs.item.define.Goals as goal

pub returns-in-Stepped-clause-turns : goal.returns-in-Stepped-clause-turns
returns-in-Stepped-clause-turns g c = λ before own f.
    let a = c.args in
    let t = c.in-Stepped.ensures.turns in
    let w = define_goes_on g.S.Steps.sound before a.asked own a.statement a.run c.step.new.self _ _ t.acts f c.in-Stepped.ensures.definition t.ran t.fits t.told.0 t.told.1 in
    record { acts = t.acts; ran = t.ran; told = (refl, w) }

pub returns-in-Waiting-clause-turns : goal.returns-in-Waiting-clause-turns
returns-in-Waiting-clause-turns g c = λ before own f.
    let a = c.args in
    let t = c.in-Waiting.ensures.turns in
    let w = define_goes_on g.S.Steps.sound before a.asked own a.statement a.run c.step.new.self _ _ t.acts f c.in-Waiting.ensures.definition t.ran t.fits t.told.0 t.told.1 in
    record { acts = t.acts; ran = t.ran; told = (refl, w) }

pub returns-in-Over-Ok-clause-turns : goal.returns-in-Over-Ok-clause-turns
returns-in-Over-Ok-clause-turns g c = λ before own f.
    let a = c.args in
    define_made g.S.Steps.sound before a.asked own a.statement a.run c.step.new.self _ _ _ c.made_so.result f c.in-Over-Ok.ensures.definition (rw c.in-Over-Ok.field-0-is at c.in-Over-Ok.ensures.turns) c.made_so.ensures

pub returns-in-Over-Err-clause-turns : goal.returns-in-Over-Err-clause-turns
returns-in-Over-Err-clause-turns g c = λ before own f.
    let a = c.args in
    define_is_over g.S.Steps.sound before a.asked own a.statement a.run c.step.new.self _ _ _ c.defined.result f (rw c.in-Over-Err.field-0-is at c.in-Over-Err.ensures.turns) tt c.defined.ensures
