use Rattle.std.proofs.Common.{sym, ◌∙◌}
use Rattle.px_session.proofs.Lives.{no_call, same_run}
use Rattle.px_session.proofs.Selecting.{ended_idle, has_ended, if_doing}
use Rattle.px_session.proofs.run.SessionRun.step.Goals as goal

pub returns-then-is_some-clause-steps : goal.returns-then-is_some-clause-steps
returns-then-is_some-clause-steps g c = λ began live.
    no_call g.S.Steps.sound began (g.S.Steps.known c.args.s.now) c.args.self.now c.args.self.now live (same_run g.S.Steps.sound began c.args.self.now)

pub returns-then-is_some-clause-scans : goal.returns-then-is_some-clause-scans
returns-then-is_some-clause-scans g c = ended_idle _ c.args.self.now.ending c.args.self.now.doing (has_ended c.args.self.now.ending (sym c.is_some.ensures ∙ c.if-is_some.true)) c.requires.live.1.idle

pub returns-in-Idle-clause-scans : goal.returns-in-Idle-clause-scans
returns-in-Idle-clause-scans g c = if_doing _ c.args.self.now.doing _ (sym c.replace.ensures.value ∙ c.in-Idle.is) tt

pub returns-in-Under-clause-scans : goal.returns-in-Under-clause-scans
returns-in-Under-clause-scans g c = if_doing _ c.args.self.now.doing _ (sym c.replace.ensures.value ∙ c.in-Under.is) c.go_on.ensures.scans

pub returns-then-is_some-clause-looks : goal.returns-then-is_some-clause-looks
returns-then-is_some-clause-looks g c = λ alone. ended_idle _ c.args.self.now.ending c.args.self.now.doing (has_ended c.args.self.now.ending (sym c.is_some.ensures ∙ c.if-is_some.true)) c.requires.live.1.idle

pub returns-in-Idle-clause-looks : goal.returns-in-Idle-clause-looks
returns-in-Idle-clause-looks g c = λ alone. if_doing _ c.args.self.now.doing _ (sym c.replace.ensures.value ∙ c.in-Idle.is) tt

pub returns-in-Under-clause-looks : goal.returns-in-Under-clause-looks
returns-in-Under-clause-looks g c = λ alone. if_doing _ c.args.self.now.doing _ (sym c.replace.ensures.value ∙ c.in-Under.is) (c.go_on.ensures.looks alone)

pub returns-then-is_some-clause-doubts : goal.returns-then-is_some-clause-doubts
returns-then-is_some-clause-doubts g c = λ alone sound. ended_idle _ c.args.self.now.ending c.args.self.now.doing (has_ended c.args.self.now.ending (sym c.is_some.ensures ∙ c.if-is_some.true)) c.requires.live.1.idle

pub returns-in-Idle-clause-doubts : goal.returns-in-Idle-clause-doubts
returns-in-Idle-clause-doubts g c = λ alone sound. if_doing _ c.args.self.now.doing _ (sym c.replace.ensures.value ∙ c.in-Idle.is) tt

pub returns-in-Under-clause-doubts : goal.returns-in-Under-clause-doubts
returns-in-Under-clause-doubts g c = λ alone sound. if_doing _ c.args.self.now.doing _ (sym c.replace.ensures.value ∙ c.in-Under.is) (c.go_on.ensures.doubts alone sound)
