use Rattle.std.proofs.Common.{refl, arith}
use Rattle.px_scan.proofs.Turning as turning
use Rattle.px_scan.proofs.Bounding as bounding
use Rattle.px_scan.proofs.Looking as looking
use Rattle.px_scan.proofs.machine.«open».Goals as goal

pub follow-requires-clause-bound : goal.follow-requires-clause-bound
follow-requires-clause-bound g c = turning.opened-bound _ _ _ _ _ _ c.table.ensures c.in-Ok.ensures.ok c.requires.1

pub follow-requires-clause-rising : goal.follow-requires-clause-rising
follow-requires-clause-rising g c = c.in-Ok.ensures.ok.found.rising

pub returns-in-Ok-clause-turns : goal.returns-in-Ok-clause-turns
returns-in-Ok-clause-turns g c =
    turning.opens g.S.Steps.sound _ _ (g.Q.Asks.asked c.args.query.now) c.args.scn c.table.result c.args.rows c.in-Ok.point _ c.table.ensures c.in-Ok.ensures.ok
    (c.follow.ensures.goes c.args.scn _ (turning.opened-reading _ _ _ _ _ _ c.table.ensures c.in-Ok.ensures.ok))

pub returns-in-Err-NotYet-clause-turns : goal.returns-in-Err-NotYet-clause-turns
returns-in-Err-NotYet-clause-turns g c = rw c.in-Err-NotYet.field-0-is (turning.awaits g.S.Steps.sound _ _ (g.Q.Asks.asked c.args.query.now) c.args.scn c.table.result c.args.rows c.in-Err-NotYet.stamp c.table.ensures c.requires (rw c.in-Err-NotYet.field-0-is at c.in-Err-NotYet.ensures.refused))

pub returns-in-Err-NoTable-clause-turns : goal.returns-in-Err-NoTable-clause-turns
returns-in-Err-NoTable-clause-turns g c =
    let r = turning.no-table g.S.Steps.sound _ _ (g.Q.Asks.asked c.args.query.now) c.table.result c.args.scn c.table.ensures (rw c.in-Err-NoTable.field-0-is at c.in-Err-NoTable.ensures.refused) in
    turning.unopened g.S.Steps.sound _ _ (g.Q.Asks.asked c.args.query.now) c.args.scn _ _ r.0 r.1 (λ n. tt)

pub returns-in-Err-BelowHorizon-clause-turns : goal.returns-in-Err-BelowHorizon-clause-turns
returns-in-Err-BelowHorizon-clause-turns g c =
    let r = turning.below-horizon g.S.Steps.sound _ _ (g.Q.Asks.asked c.args.query.now) c.table.result c.in-Err-BelowHorizon.horizon c.args.scn c.table.ensures (rw c.in-Err-BelowHorizon.field-0-is at c.in-Err-BelowHorizon.ensures.refused) in
    rw c.in-Err-BelowHorizon.field-0-is (turning.unopened g.S.Steps.sound _ _ (g.Q.Asks.asked c.args.query.now) c.args.scn _ _ r.0 r.1 (λ n. tt))

pub returns-in-Err-Closed-clause-turns : goal.returns-in-Err-Closed-clause-turns
returns-in-Err-Closed-clause-turns g c =
    let r = turning.open-closed g.S.Steps.sound _ _ (g.Q.Asks.asked c.args.query.now) c.table.result c.in-Err-Closed.call c.args.scn (rw c.in-Err-Closed.field-0-is at c.in-Err-Closed.ensures.refused) in
    rw c.in-Err-Closed.field-0-is (turning.unopened g.S.Steps.sound _ _ (g.Q.Asks.asked c.args.query.now) c.args.scn _ _ r.0 r.1 (λ n. tt))

pub returns-in-Err-Memory-clause-turns : goal.returns-in-Err-Memory-clause-turns
returns-in-Err-Memory-clause-turns g c =
    let r = turning.open-memory g.S.Steps.sound _ _ (g.Q.Asks.asked c.args.query.now) c.table.result c.args.scn (rw c.in-Err-Memory.field-0-is at c.in-Err-Memory.ensures.refused) in
    turning.unopened g.S.Steps.sound _ _ (g.Q.Asks.asked c.args.query.now) c.args.scn _ _ r.0 r.1 (λ n. tt)

pub returns-in-Ok-clause-spends : goal.returns-in-Ok-clause-spends
returns-in-Ok-clause-spends g c = bounding.spends_opening g.S.Steps.sound _ _ c.args.rows _ c.follow.ensures.left

pub returns-in-Err-NotYet-clause-spends : goal.returns-in-Err-NotYet-clause-spends
returns-in-Err-NotYet-clause-spends g c = bounding.spends_waiting g.S.Steps.sound _ _ c.args.rows _

pub returns-in-Err-NoTable-clause-spends : goal.returns-in-Err-NoTable-clause-spends
returns-in-Err-NoTable-clause-spends g c = bounding.spends_unopened g.S.Steps.sound _ _ c.args.rows _

pub returns-in-Err-BelowHorizon-clause-spends : goal.returns-in-Err-BelowHorizon-clause-spends
returns-in-Err-BelowHorizon-clause-spends g c = bounding.spends_unopened g.S.Steps.sound _ _ c.args.rows _

pub returns-in-Err-Closed-clause-spends : goal.returns-in-Err-Closed-clause-spends
returns-in-Err-Closed-clause-spends g c = bounding.spends_unopened g.S.Steps.sound _ _ c.args.rows _

pub returns-in-Err-Memory-clause-spends : goal.returns-in-Err-Memory-clause-spends
returns-in-Err-Memory-clause-spends g c = bounding.spends_unopened g.S.Steps.sound _ _ c.args.rows _

pub returns-in-Ok-clause-looks : goal.returns-in-Ok-clause-looks
returns-in-Ok-clause-looks g c = λ alone. looking.looks_none g.S.Steps.sound _ _ _ _ _ _ _ refl (c.open_point.ensures.unlooked alone) (let none = c.follow.ensures.to_look in omega arith)

pub returns-in-Err-NotYet-clause-looks : goal.returns-in-Err-NotYet-clause-looks
returns-in-Err-NotYet-clause-looks g c = λ alone. looking.looks_none g.S.Steps.sound _ _ _ _ _ _ _ refl (c.open_point.ensures.unlooked alone) (omega arith)

pub returns-in-Err-NoTable-clause-looks : goal.returns-in-Err-NoTable-clause-looks
returns-in-Err-NoTable-clause-looks g c = λ alone. looking.looks_none g.S.Steps.sound _ _ _ _ _ _ _ refl (c.open_point.ensures.unlooked alone) (omega arith)

pub returns-in-Err-BelowHorizon-clause-looks : goal.returns-in-Err-BelowHorizon-clause-looks
returns-in-Err-BelowHorizon-clause-looks g c = λ alone. looking.looks_none g.S.Steps.sound _ _ _ _ _ _ _ refl (c.open_point.ensures.unlooked alone) (omega arith)

pub returns-in-Err-Closed-clause-looks : goal.returns-in-Err-Closed-clause-looks
returns-in-Err-Closed-clause-looks g c = λ alone. looking.looks_none g.S.Steps.sound _ _ _ _ _ _ _ refl (c.open_point.ensures.unlooked alone) (omega arith)

pub returns-in-Err-Memory-clause-looks : goal.returns-in-Err-Memory-clause-looks
returns-in-Err-Memory-clause-looks g c = λ alone. looking.looks_none g.S.Steps.sound _ _ _ _ _ _ _ refl (c.open_point.ensures.unlooked alone) (omega arith)

pub returns-in-Ok-clause-doubts : goal.returns-in-Ok-clause-doubts
returns-in-Ok-clause-doubts g c = λ alone sound. record { kept = λ h. c.follow.ensures.doubts (g.S.Steps.doubtful c.open_point.new.self) (g.S.Steps.known c.open_point.new.self); fixed = λ h. tt }

pub returns-in-Err-NotYet-clause-doubts : goal.returns-in-Err-NotYet-clause-doubts
returns-in-Err-NotYet-clause-doubts g c = λ alone sound. record { kept = λ h. tt; fixed = λ h. tt }

pub returns-in-Err-NoTable-clause-doubts : goal.returns-in-Err-NoTable-clause-doubts
returns-in-Err-NoTable-clause-doubts g c = λ alone sound. record { kept = λ h. tt; fixed = λ h. tt }

pub returns-in-Err-BelowHorizon-clause-doubts : goal.returns-in-Err-BelowHorizon-clause-doubts
returns-in-Err-BelowHorizon-clause-doubts g c = λ alone sound. record { kept = λ h. tt; fixed = λ h. tt }

pub returns-in-Err-Closed-clause-doubts : goal.returns-in-Err-Closed-clause-doubts
returns-in-Err-Closed-clause-doubts g c = λ alone sound. record { kept = λ h. tt; fixed = λ h. tt }

pub returns-in-Err-Memory-clause-doubts : goal.returns-in-Err-Memory-clause-doubts
returns-in-Err-Memory-clause-doubts g c = λ alone sound. record { kept = λ h. tt; fixed = λ h. tt }
