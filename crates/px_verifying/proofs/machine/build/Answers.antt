use Rattle.std.proofs.Common.{sym, subst, ◌∙◌}
use Rattle.std.proofs.Crossing.{crosses}
use denote.Param.Send.{sendable}
use Rattle.px_values.specs.declared.name.IndexId.{IndexId}
use Rattle.px_values.specs.declared.name.TableId.{TableId}
use Rattle.px_upkeep.specs.Turns as building
use Rattle.px_verifying.proofs.Stepping.{build-on, build-refused, build-then, build-waits, build-whole}
use Rattle.px_verifying.proofs.machine.build.Goals as goal

pub step-requires : goal.step-requires
step-requires g c =
    let j = c.requires.2.is.1 in
    let F : TableId × IndexId → Type 0 = λ q. building.FitsBuild g.S.Steps.sound j.again.at q.0 q.1 j.rest c.args.run (g.S.Steps.known c.args.s.now) in
    (search (sendable, crosses) depth 40, (j.again.at, j.rest, subst F (λ i. (sym j.fits.table i, sym j.fits.index i)) j.fits))

pub returns-in-Stepped-clause-turns : goal.returns-in-Stepped-clause-turns
returns-in-Stepped-clause-turns g c = λ n own f. let a = c.args.asked in let j = f.is.1 in rw c.went_on.ensures (build-on g.S.Steps.sound n a.table a.index a.kind own c.args.done _ _ c.args.run f _ (c.in-Stepped.ensures.turns j.again.at a.table a.index j.rest j.fits))

pub returns-in-Waiting-clause-turns : goal.returns-in-Waiting-clause-turns
returns-in-Waiting-clause-turns g c = λ n own f. let a = c.args.asked in let j = f.is.1 in rw c.waits.ensures (build-waits g.S.Steps.sound n a.table a.index a.kind own c.args.done _ _ c.args.run f _ (c.in-Waiting.ensures.turns j.again.at a.table a.index j.rest j.fits))

pub returns-in-Over-Err-clause-turns : goal.returns-in-Over-Err-clause-turns
returns-in-Over-Err-clause-turns g c = λ n own f. let a = c.args.asked in let j = f.is.1 in rw (c.refused.ensures, c.build_fault.ensures) (build-refused g.S.Steps.sound n a.table a.index a.kind own c.args.done _ _ c.args.run f _ ((rw c.in-Over-Err.field-0-is at c.in-Over-Err.ensures.turns) j.again.at a.table a.index j.rest j.fits))

pub returns-then-reports_last-clause-turns : goal.returns-then-reports_last-clause-turns
returns-then-reports_last-clause-turns g c = λ n own f. let a = c.args.asked in let j = f.is.1 in rw c.went_on-then-reports_last.ensures (build-then g.S.Steps.sound n a.table a.index a.kind own c.args.done _ _ c.args.run f _ _ (sym c.reports_last.ensures ∙ c.if-reports_last.true) c.report_of.ensures ((rw c.in-Over-Ok.field-0-is at c.in-Over-Ok.ensures.turns) j.again.at a.table a.index j.rest j.fits))

pub returns-else-reports_last-clause-turns : goal.returns-else-reports_last-clause-turns
returns-else-reports_last-clause-turns g c = λ n own f. let a = c.args.asked in let j = f.is.1 in rw c.finished.ensures (build-whole g.S.Steps.sound n a.table a.index a.kind own c.args.done _ _ c.args.run f _ (sym c.reports_last.ensures ∙ c.if-reports_last.false) ((rw c.in-Over-Ok.field-0-is at c.in-Over-Ok.ensures.turns) j.again.at a.table a.index j.rest j.fits))
