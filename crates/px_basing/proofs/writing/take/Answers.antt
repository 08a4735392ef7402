use Rattle.std.proofs.Common.{Err, ap, subst}
use Rattle.px_basing.specs.Refused.{IsRoomRefused}
use Rattle.px_basing.specs.declared.fault.BaseFault.TheVariants.{Busy}
use Rattle.px_basing.proofs.Handing.{err_same}
use Rattle.px_basing.proofs.writing.take.Goals as goal

pub returns-in-Err-Busy-clause-cause : goal.returns-in-Err-Busy-clause-cause
returns-in-Err-Busy-clause-cause c fault e =
    subst (IsRoomRefused c.args.region.now c.args.cells c.args.bytes) (err_same (Busy c.number-number.result c.in-Err-Busy.cells c.in-Err-Busy.bytes) fault e) (c.number-number.ensures, (c.in-Err-Busy.ensures.busy c.in-Err-Busy.cells c.in-Err-Busy.bytes).0 (ap Err c.in-Err-Busy.field-0-is))
