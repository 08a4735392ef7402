use Rattle.std.proofs.Common.{sym, subst}
use Rattle.px_calls.specs.declared.definition.Definition.{Definition}
use Rattle.px_defining.specs.Turns as define
use Rattle.px_verifying.proofs.Stepping.{define-on, define-refused, define-then, define-waits}
use Rattle.px_verifying.proofs.machine.define.Goals as goal

pub step-requires-clause-fits : goal.step-requires-clause-fits
step-requires-clause-fits g c = let j = c.requires.2.is.1.defining in subst (λ (y : Definition). define.FitsDefinition g.S.Steps.sound y c.args.run.state (g.S.Steps.known c.args.s.now)) (sym j.0) j.1

pub step-requires-clause-going : goal.step-requires-clause-going
step-requires-clause-going g c = c.requires.2.is.1.defining.2

pub returns-in-Stepped-clause-turns : goal.returns-in-Stepped-clause-turns
returns-in-Stepped-clause-turns g c = λ n own f. let a = c.args.asked in rw c.went_on.ensures (define-on g.S.Steps.sound n a.table a.index a.kind own c.args.done _ _ c.args.run c.step.new.self f c.in-Stepped.ensures.definition c.in-Stepped.ensures.turns)

pub returns-in-Waiting-clause-turns : goal.returns-in-Waiting-clause-turns
returns-in-Waiting-clause-turns g c = λ n own f. let a = c.args.asked in rw c.waits.ensures (define-waits g.S.Steps.sound n a.table a.index a.kind own c.args.done _ _ c.args.run c.step.new.self f _ c.in-Waiting.ensures.definition c.in-Waiting.ensures.turns)

pub returns-in-Over-Err-clause-turns : goal.returns-in-Over-Err-clause-turns
returns-in-Over-Err-clause-turns g c = λ n own f. let a = c.args.asked in rw (c.refused.ensures, c.definition_fault.ensures) (define-refused g.S.Steps.sound n a.table a.index a.kind own c.args.done _ _ c.args.run c.step.new.self f _ (rw c.in-Over-Err.field-0-is at c.in-Over-Err.ensures.turns))

pub returns-in-Over-Ok-clause-turns : goal.returns-in-Over-Ok-clause-turns
returns-in-Over-Ok-clause-turns g c = λ n own f. let a = c.args.asked in rw c.went_on-in-Over-Ok.ensures (define-then g.S.Steps.sound n a.table a.index a.kind own c.args.done _ _ c.args.run c.step.new.self f _ _ (record { table = c.new-build.ensures.table; index = c.new-build.ensures.index; birth = _; state = c.new-build.ensures.state }) (rw c.in-Over-Ok.field-0-is at c.in-Over-Ok.ensures.turns))
