use Rattle.std.proofs.Common.{sym, subst, ◌∙◌}
use Rattle.px_values.specs.declared.name.IndexId.{IndexId}
use Rattle.px_values.specs.declared.name.TableId.{TableId}
use Rattle.px_verify.specs.Turns as report
use Rattle.px_verifying.proofs.Stepping.{first-on, first-refused, first-then, first-waits, first-whole}
use Rattle.px_verifying.proofs.machine.report_before.Goals as goal

pub step-requires-clause-fits : goal.step-requires-clause-fits
step-requires-clause-fits g c =
    let j = c.requires.2.is.1 in
    let F : TableId × IndexId → Type 0 = λ q. report.FitsReport g.S.Steps.sound q.0 q.1 c.args.run.state (g.S.Steps.known c.args.s.now) in
    subst F (λ i. (sym j.table i, sym j.index i)) j.fits

pub step-requires-clause-going : goal.step-requires-clause-going
step-requires-clause-going g c = c.requires.2.is.1.going

pub returns-in-Stepped-clause-turns : goal.returns-in-Stepped-clause-turns
returns-in-Stepped-clause-turns g c = λ n own f. let a = c.args.asked in rw c.went_on.ensures (first-on g.S.Steps.sound n a.table a.index a.kind own c.args.done _ _ c.args.run c.step.new.self f c.in-Stepped.ensures.table c.in-Stepped.ensures.index c.in-Stepped.ensures.turns)

pub returns-in-Waiting-clause-turns : goal.returns-in-Waiting-clause-turns
returns-in-Waiting-clause-turns g c = λ n own f. let a = c.args.asked in rw c.waits.ensures (first-waits g.S.Steps.sound n a.table a.index a.kind own c.args.done _ _ c.args.run c.step.new.self f _ c.in-Waiting.ensures.table c.in-Waiting.ensures.index c.in-Waiting.ensures.turns)

pub returns-in-Over-Err-clause-turns : goal.returns-in-Over-Err-clause-turns
returns-in-Over-Err-clause-turns g c = λ n own f. let a = c.args.asked in rw (c.refused.ensures, c.report_fault.ensures) (first-refused g.S.Steps.sound n a.table a.index a.kind own c.args.done _ _ c.args.run c.step.new.self f _ (rw c.in-Over-Err.field-0-is at c.in-Over-Err.ensures.turns))

pub returns-then-rebuilds-clause-turns : goal.returns-then-rebuilds-clause-turns
returns-then-rebuilds-clause-turns g c = λ n own f. let a = c.args.asked in rw c.went_on-then-rebuilds.ensures (first-then g.S.Steps.sound n a.table a.index a.kind own c.args.done _ _ c.args.run c.step.new.self f _ _ (sym c.rebuilds.ensures ∙ c.if-rebuilds.true) c.rebuilding_of.ensures (rw c.in-Over-Ok.field-0-is at c.in-Over-Ok.ensures.turns))

pub returns-else-rebuilds-clause-turns : goal.returns-else-rebuilds-clause-turns
returns-else-rebuilds-clause-turns g c = λ n own f. let a = c.args.asked in rw c.finished.ensures (first-whole g.S.Steps.sound n a.table a.index a.kind own c.args.done _ _ c.args.run c.step.new.self f _ (sym c.rebuilds.ensures ∙ c.if-rebuilds.false) (rw c.in-Over-Ok.field-0-is at c.in-Over-Ok.ensures.turns))
