use Rattle.std.proofs.Common.{sym, subst, ◌∙◌}
use Rattle.px_server.specs.Logged.{AreLogged, AreOnDisk}
use Rattle.px_server.specs.Shown.{Shown}
use Rattle.px_server.proofs.Finished.{groups_on, logged_on, not_late, stands_by}
use Rattle.px_server.proofs.server.Server.finish.Goals as goal

pub returns-clause-stands : goal.returns-clause-stands
returns-clause-stands g c = λ open_ given tells.
    let s = c.self.inside in
    stands_by g.D.Disk g.B.Based.base g.B.Founded.sound g.B.Founded.premise g.B.Founded.began s.disk s.catalog s.standing s.groups.items s.trail s.late s.closed c.self.invariant.0 open_ given tells

pub returns-clause-unlate : goal.returns-clause-unlate
returns-clause-unlate g c = λ open_.
    let s = c.self.inside in
    not_late g.D.Disk g.B.Based.base g.B.Founded.sound g.B.Founded.premise g.B.Founded.began s.disk s.catalog s.standing s.groups.items s.trail s.late s.closed c.self.invariant.0 open_

pub returns-clause-logged : goal.returns-clause-logged
returns-clause-logged g c = λ open_ given tells.
    let s = c.self.inside in
    subst (λ (v : Shown). AreLogged g.D.Disk g.B.Based.base s.disk s.trail.entries v.logged) c.self.view_is
    (logged_on g.D.Disk g.B.Based.base g.B.Founded.sound g.B.Founded.premise g.B.Founded.began s.disk s.catalog s.standing s.groups.items s.trail s.late s.closed c.self.invariant.0 open_ given tells)

pub returns-clause-closed_at : goal.returns-clause-closed_at
returns-clause-closed_at g c = λ call shut. c.self.invariant.0.last_call call (sym c.self.invariant.0.told.closing ∙ shut)

pub returns-clause-on_disk : goal.returns-clause-on_disk
returns-clause-on_disk g c = λ open_ given tells.
    let s = c.self.inside in
    subst (λ (v : Shown). AreOnDisk g.D.Disk g.B.Based.base s.disk s.trail.entries v.groups) c.self.view_is
    (groups_on g.D.Disk g.B.Based.base g.B.Founded.sound g.B.Founded.premise g.B.Founded.began s.disk s.catalog s.standing s.groups.items s.trail s.late s.closed c.self.invariant.0 open_ given tells)
