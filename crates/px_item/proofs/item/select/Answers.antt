use Rattle.std.proofs.Common.{refl}
use Rattle.px_item.proofs.Going.{select_goes_on, select_is_over}
use Rattle.px_item.proofs.Selecting.{keeps_to_end, looks_to_end, scans_to_end}
use Rattle.px_item.proofs.item.select.Goals as goal

pub returns-in-Stepped-clause-turns : goal.returns-in-Stepped-clause-turns
returns-in-Stepped-clause-turns g c = λ before own f.
    let a = c.args in
    let t = c.in-Stepped.ensures.turns in
    let j = f.state.1 in
    let w = select_goes_on g.S.Steps.sound before a.asked own a.statement a.run c.step.new.self _ _ t.acts f c.in-Stepped.ensures.planned c.in-Stepped.ensures.scn t.ran t.fits t.told.0 (t.since before j.since) (t.since a.asked.first j.first) t.told.1 in
    record { acts = t.acts; ran = t.ran; told = (refl, w) }

pub returns-in-Waiting-clause-turns : goal.returns-in-Waiting-clause-turns
returns-in-Waiting-clause-turns g c = λ before own f.
    let a = c.args in
    let t = c.in-Waiting.ensures.turns in
    let j = f.state.1 in
    let w = select_goes_on g.S.Steps.sound before a.asked own a.statement a.run c.step.new.self _ _ t.acts f c.in-Waiting.ensures.planned c.in-Waiting.ensures.scn t.ran t.fits t.told.0 (t.since before j.since) (t.since a.asked.first j.first) t.told.1 in
    record { acts = t.acts; ran = t.ran; told = (refl, w) }

pub returns-in-Over-clause-turns : goal.returns-in-Over-clause-turns
returns-in-Over-clause-turns g c = λ before own f.
    let a = c.args in
    select_is_over g.S.Steps.sound before a.asked own a.statement a.run c.step.new.self _ _ _ c.selected.result f c.in-Over.ensures.turns c.selected.ensures

pub returns-in-Stepped-clause-scans : goal.returns-in-Stepped-clause-scans
returns-in-Stepped-clause-scans g c = let e = c.in-Stepped.ensures in (e.planned, e.scn, (e.scans.0, e.scans.1))

pub returns-in-Waiting-clause-scans : goal.returns-in-Waiting-clause-scans
returns-in-Waiting-clause-scans g c = let e = c.in-Waiting.ensures in (e.planned, e.scn, (e.scans.0, e.scans.1))

pub returns-in-Over-clause-scans : goal.returns-in-Over-clause-scans
returns-in-Over-clause-scans g c = let e = c.in-Over.ensures in scans_to_end g.S.Steps.sound c.args.run _ _ c.step.new.self.scan.state e.scans.0 e.turns.told.0 e.scans.1

pub returns-in-Stepped-clause-looks : goal.returns-in-Stepped-clause-looks
returns-in-Stepped-clause-looks g c = λ alone by_index. let e = c.in-Stepped.ensures in (e.planned, e.scn, e.looks alone by_index)

pub returns-in-Waiting-clause-looks : goal.returns-in-Waiting-clause-looks
returns-in-Waiting-clause-looks g c = λ alone by_index. let e = c.in-Waiting.ensures in (e.planned, e.scn, e.looks alone by_index)

pub returns-in-Over-clause-looks : goal.returns-in-Over-clause-looks
returns-in-Over-clause-looks g c = λ alone by_index. let e = c.in-Over.ensures in looks_to_end g.S.Steps.sound c.args.run.scan.state _ _ c.step.new.self.scan.state _ _ _ e.turns.told.0 (e.looks alone by_index)

pub returns-in-Stepped-clause-doubts : goal.returns-in-Stepped-clause-doubts
returns-in-Stepped-clause-doubts g c = λ alone sound. let e = c.in-Stepped.ensures in (e.planned, e.scn, e.doubts alone sound)

pub returns-in-Waiting-clause-doubts : goal.returns-in-Waiting-clause-doubts
returns-in-Waiting-clause-doubts g c = λ alone sound. let e = c.in-Waiting.ensures in (e.planned, e.scn, e.doubts alone sound)

pub returns-in-Over-clause-doubts : goal.returns-in-Over-clause-doubts
returns-in-Over-clause-doubts g c = λ alone sound. let e = c.in-Over.ensures in keeps_to_end c.args.run.scan.state _ _ c.step.new.self.scan.state _ _ e.turns.told.0 (e.doubts alone sound)
