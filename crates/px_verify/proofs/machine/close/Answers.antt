use Rattle.std.proofs.Common.{refl}
use Rattle.px_verify.proofs.Stepping as stepping
use Rattle.px_verify.proofs.machine.close.Goals as goal

pub returns-in-Err-clause-turns : goal.returns-in-Err-clause-turns
returns-in-Err-clause-turns g c = rw c.in-Err.is (stepping.closes-err g.S.Steps.sound _ _ c.args.table c.args.index c.args.point c.in-Err.f (rw c.in-Err.is at c.requires) c.close_point.ensures.adds)

pub returns-in-Err-report_on-clause-turns : goal.returns-in-Err-report_on-clause-turns
returns-in-Err-report_on-clause-turns g c = rw c.in-Ok.is (stepping.closes-full g.S.Steps.sound _ _ c.args.table c.args.index c.args.point c.in-Ok.lists c.in-Err-report_on.f c.in-Err-report_on.ensures.err (rw c.in-Ok.is at c.requires) c.close_point.ensures.adds)

pub returns-in-Ok-report_on-clause-turns : goal.returns-in-Ok-report_on-clause-turns
returns-in-Ok-report_on-clause-turns g c =
    rw c.in-Ok.is (stepping.closes-ok g.S.Steps.sound _ _ c.args.table c.args.index c.args.point c.in-Ok.lists _ (rw c.in-Ok.is at c.requires) c.close_point.ensures.adds c.in-Ok-report_on.ensures.ok refl c.seen-last.ensures)
