use Rattle.std.proofs.Common.{ap}
use Rattle.px_scan.specs.Fixes.{KeepsDoubts}
use Rattle.px_scan.specs.Looking.{IsByIndex, Looks}
use Rattle.px_item.specs.Selects.{ScansTo}
use Rattle.px_session.specs.declared.run.SessionRun.{SessionRun}
use Rattle.px_session.proofs.Lives.{goes_on, is_over, no_none}
use Rattle.px_session.proofs.Selecting.{idle_if, idle_then, under_if, under_still}
use Rattle.px_session.proofs.run.SessionRun.go_on.Goals as goal

pub push-requires-clause-here : goal.push-requires-clause-here
push-requires-clause-here g c = λ none.
    let me = c.args.self.now in
    let d = c.requires.live.1.doing in
    no_none me.pieces.items me.next _ d.rest d.next none

pub returns-in-Stepped-clause-steps : goal.returns-in-Stepped-clause-steps
returns-in-Stepped-clause-steps g c = λ began live.
    let me = c.args.self.now in
    let t = c.in-Stepped.ensures.turns me.before _ live.doing.fits in
    goes_on g.S.Steps.sound began _ _ me c.set_doing.new.self c.args.run c.in-Stepped.run' c.args.span t.acts live c.requires.going t.ran t.told.0 t.told.1 c.set_doing.ensures

pub returns-in-Waiting-clause-steps : goal.returns-in-Waiting-clause-steps
returns-in-Waiting-clause-steps g c = λ began live.
    let me = c.args.self.now in
    let t = c.in-Waiting.ensures.turns me.before _ live.doing.fits in
    goes_on g.S.Steps.sound began _ _ me c.set_doing-in-Waiting.new.self c.args.run c.in-Waiting.run' c.args.span t.acts live c.requires.going t.ran t.told.0 t.told.1 c.set_doing-in-Waiting.ensures

pub returns-in-Over-clause-steps : goal.returns-in-Over-clause-steps
returns-in-Over-clause-steps g c = λ began live.
    let me = c.args.self.now in
    let t = c.in-Over.ensures.turns me.before _ live.doing.fits in
    is_over g.S.Steps.sound began _ _ me c.push.new.self c.args.run c.args.span c.in-Over.answered c.seen.result live c.requires.going t c.seen.ensures c.push.ensures

pub returns-in-Stepped-clause-scans : goal.returns-in-Stepped-clause-scans
returns-in-Stepped-clause-scans g c =
    under_still (λ x q. ScansTo g.S.Steps.sound x (g.S.Steps.known c.args.s.now) (g.S.Steps.known c.step.new.s) q)
    c.args.run.state c.in-Stepped.run' c.args.span c.set_doing.new.self.doing (ap (λ (r : SessionRun). r.doing) c.set_doing.ensures) c.in-Stepped.ensures.scans

pub returns-in-Stepped-clause-looks : goal.returns-in-Stepped-clause-looks
returns-in-Stepped-clause-looks g c = λ alone.
    under_if (λ x. IsByIndex x.scan.state) (λ x q. Looks g.S.Steps.sound x.scan.state (g.S.Steps.known c.args.s.now) (g.S.Steps.looked c.args.s.now) q (g.S.Steps.known c.step.new.s) (g.S.Steps.looked c.step.new.s) (g.S.Steps.doubtful c.step.new.s))
    c.args.run.state c.in-Stepped.run' c.args.span c.set_doing.new.self.doing (ap (λ (r : SessionRun). r.doing) c.set_doing.ensures) (c.in-Stepped.ensures.looks alone)

pub returns-in-Stepped-clause-doubts : goal.returns-in-Stepped-clause-doubts
returns-in-Stepped-clause-doubts g c = λ alone sound.
    under_still (λ x q. KeepsDoubts x.scan.state (g.S.Steps.known c.args.s.now) (g.S.Steps.doubtful c.args.s.now) q (g.S.Steps.known c.step.new.s) (g.S.Steps.doubtful c.step.new.s))
    c.args.run.state c.in-Stepped.run' c.args.span c.set_doing.new.self.doing (ap (λ (r : SessionRun). r.doing) c.set_doing.ensures) (c.in-Stepped.ensures.doubts alone sound)

pub returns-in-Waiting-clause-scans : goal.returns-in-Waiting-clause-scans
returns-in-Waiting-clause-scans g c =
    under_still (λ x q. ScansTo g.S.Steps.sound x (g.S.Steps.known c.args.s.now) (g.S.Steps.known c.step.new.s) q)
    c.args.run.state c.in-Waiting.run' c.args.span c.set_doing-in-Waiting.new.self.doing (ap (λ (r : SessionRun). r.doing) c.set_doing-in-Waiting.ensures) c.in-Waiting.ensures.scans

pub returns-in-Waiting-clause-looks : goal.returns-in-Waiting-clause-looks
returns-in-Waiting-clause-looks g c = λ alone.
    under_if (λ x. IsByIndex x.scan.state) (λ x q. Looks g.S.Steps.sound x.scan.state (g.S.Steps.known c.args.s.now) (g.S.Steps.looked c.args.s.now) q (g.S.Steps.known c.step.new.s) (g.S.Steps.looked c.step.new.s) (g.S.Steps.doubtful c.step.new.s))
    c.args.run.state c.in-Waiting.run' c.args.span c.set_doing-in-Waiting.new.self.doing (ap (λ (r : SessionRun). r.doing) c.set_doing-in-Waiting.ensures) (c.in-Waiting.ensures.looks alone)

pub returns-in-Waiting-clause-doubts : goal.returns-in-Waiting-clause-doubts
returns-in-Waiting-clause-doubts g c = λ alone sound.
    under_still (λ x q. KeepsDoubts x.scan.state (g.S.Steps.known c.args.s.now) (g.S.Steps.doubtful c.args.s.now) q (g.S.Steps.known c.step.new.s) (g.S.Steps.doubtful c.step.new.s))
    c.args.run.state c.in-Waiting.run' c.args.span c.set_doing-in-Waiting.new.self.doing (ap (λ (r : SessionRun). r.doing) c.set_doing-in-Waiting.ensures) (c.in-Waiting.ensures.doubts alone sound)

pub returns-in-Over-clause-scans : goal.returns-in-Over-clause-scans
returns-in-Over-clause-scans g c =
    idle_then (λ x q. ScansTo g.S.Steps.sound x (g.S.Steps.known c.args.s.now) (g.S.Steps.known c.step.new.s) q)
    c.args.run.state _ c.push.new.self.doing c.push.ensures.doing c.in-Over.ensures.scans

pub returns-in-Over-clause-looks : goal.returns-in-Over-clause-looks
returns-in-Over-clause-looks g c = λ alone.
    idle_if (λ x. IsByIndex x.scan.state) (λ x q. Looks g.S.Steps.sound x.scan.state (g.S.Steps.known c.args.s.now) (g.S.Steps.looked c.args.s.now) q (g.S.Steps.known c.step.new.s) (g.S.Steps.looked c.step.new.s) (g.S.Steps.doubtful c.step.new.s))
    c.args.run.state _ c.push.new.self.doing c.push.ensures.doing (c.in-Over.ensures.looks alone)

pub returns-in-Over-clause-doubts : goal.returns-in-Over-clause-doubts
returns-in-Over-clause-doubts g c = λ alone sound.
    idle_then (λ x q. KeepsDoubts x.scan.state (g.S.Steps.known c.args.s.now) (g.S.Steps.doubtful c.args.s.now) q (g.S.Steps.known c.step.new.s) (g.S.Steps.doubtful c.step.new.s))
    c.args.run.state _ c.push.new.self.doing c.push.ensures.doing (c.in-Over.ensures.doubts alone sound)
