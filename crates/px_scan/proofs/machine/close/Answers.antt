use Rattle.std.proofs.Common.{refl, arith}
use Rattle.px_scan.proofs.Turning as turning
use Rattle.px_scan.proofs.Bounding as bounding
use Rattle.px_scan.proofs.Looking as looking
use Rattle.px_scan.proofs.machine.close.Goals as goal

pub returns-in-Ok-clause-turns : goal.returns-in-Ok-clause-turns
returns-in-Ok-clause-turns g c = rw c.in-Ok.is (turning.closes-ok g.S.Steps.sound _ _ (g.Q.Asks.asked c.args.query.now) c.args.scn c.args.point c.in-Ok.rows _ (rw c.in-Ok.is at c.requires) c.close_point.ensures.adds refl refl c.seen-last.ensures)

pub returns-in-Err-clause-turns : goal.returns-in-Err-clause-turns
returns-in-Err-clause-turns g c = rw c.in-Err.is (turning.closes-err g.S.Steps.sound _ _ (g.Q.Asks.asked c.args.query.now) c.args.scn c.args.point c.in-Err.f (rw c.in-Err.is at c.requires) c.close_point.ensures.adds)

pub returns-in-Ok-clause-spends : goal.returns-in-Ok-clause-spends
returns-in-Ok-clause-spends g c = bounding.spends_closing g.S.Steps.sound _ _ c.args.point c.args.end _

pub returns-in-Err-clause-spends : goal.returns-in-Err-clause-spends
returns-in-Err-clause-spends g c = bounding.spends_closing g.S.Steps.sound _ _ c.args.point c.args.end _

pub returns-in-Ok-clause-looks : goal.returns-in-Ok-clause-looks
returns-in-Ok-clause-looks g c = λ alone. looking.looks_none g.S.Steps.sound _ _ _ _ _ _ _ refl (c.close_point.ensures.unlooked alone) (omega arith)

pub returns-in-Err-clause-looks : goal.returns-in-Err-clause-looks
returns-in-Err-clause-looks g c = λ alone. looking.looks_none g.S.Steps.sound _ _ _ _ _ _ _ refl (c.close_point.ensures.unlooked alone) (omega arith)

pub returns-in-Ok-clause-doubts : goal.returns-in-Ok-clause-doubts
returns-in-Ok-clause-doubts g c = λ alone sound. record { kept = λ h. tt; fixed = λ h. tt }

pub returns-in-Err-clause-doubts : goal.returns-in-Err-clause-doubts
returns-in-Err-clause-doubts g c = λ alone sound. record { kept = λ h. tt; fixed = λ h. tt }
