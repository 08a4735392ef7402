use Rattle.px_commanding.proofs.Ordering.{goes_on, not_ordered}
use Rattle.px_commanding.specs.declared.order.OrderRun.TheVariants.{Working}
use Rattle.px_commanding.proofs.order.order.Goals as goal

pub returns-in-Ok-clause-turns : goal.returns-in-Ok-clause-turns
returns-in-Ok-clause-turns g c = goes_on _ (Working c.args.job) _ _ c.in-Ok.ensures.ok

pub returns-in-Err-clause-turns : goal.returns-in-Err-clause-turns
returns-in-Err-clause-turns g c = rw c.undone.ensures (not_ordered _ _ _ _ c.in-Err.ensures.refused)
