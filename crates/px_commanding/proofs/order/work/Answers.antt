use Rattle.px_commanding.proofs.Ordering.{is_done, not_done, works_on}
use Rattle.px_commanding.specs.declared.order.OrderRun.TheVariants.{Working}
use Rattle.px_commanding.proofs.order.work.Goals as goal

pub returns-in-Ok-Did-clause-turns : goal.returns-in-Ok-Did-clause-turns
returns-in-Ok-Did-clause-turns g c = works_on _ (Working c.args.job) _ _ (rw c.in-Ok-Did.field-0-is at c.in-Ok-Did.ensures.ok)

pub returns-in-Ok-Idle-clause-turns : goal.returns-in-Ok-Idle-clause-turns
returns-in-Ok-Idle-clause-turns g c = is_done _ _ _ (rw c.in-Ok-Idle.field-0-is at c.in-Ok-Idle.ensures.ok)

pub returns-in-Err-clause-turns : goal.returns-in-Err-clause-turns
returns-in-Err-clause-turns g c = rw c.undone.ensures (not_done _ _ _ _ c.in-Err.ensures.refused)
