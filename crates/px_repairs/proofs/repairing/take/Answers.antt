use Rattle.std.proofs.Common.{Err, ap, subst}
use Rattle.px_repairs.specs.Refused.{RefusesRoom}
use Rattle.px_repairs.specs.declared.repairing.RepairFault.TheVariants.{Busy}
use Rattle.px_repairs.proofs.Refusing.{err_same}
use Rattle.px_repairs.proofs.repairing.take.Goals as goal

pub returns-in-Err-Busy-clause-cause : goal.returns-in-Err-Busy-clause-cause
returns-in-Err-Busy-clause-cause c fault e =
    subst (RefusesRoom c.args.region.now c.args.cells c.args.bytes) (err_same (Busy c.in-Err-Busy.cells c.in-Err-Busy.bytes) fault e) ((c.in-Err-Busy.ensures.busy c.in-Err-Busy.cells c.in-Err-Busy.bytes).0 (ap Err c.in-Err-Busy.field-0-is))
