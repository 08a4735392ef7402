use Rattle.px_verify.proofs.Stepping as stepping
use Rattle.px_verify.proofs.machine.«open».Goals as goal

pub returns-in-Ok-clause-turns : goal.returns-in-Ok-clause-turns
returns-in-Ok-clause-turns g c =
    stepping.opens g.S.Steps.sound _ _ c.args.table c.args.index c.in-Ok.point _ c.in-Ok.ensures.ok
    (c.begin.ensures _ (stepping.opened-open _ _ c.args.table c.in-Ok.point c.in-Ok.ensures.ok))

pub returns-in-Err-NotYet-clause-turns : goal.returns-in-Err-NotYet-clause-turns
returns-in-Err-NotYet-clause-turns g c = rw c.in-Err-NotYet.field-0-is (stepping.awaits g.S.Steps.sound _ _ c.args.table c.args.index c.in-Err-NotYet.stamp (rw c.in-Err-NotYet.field-0-is at c.in-Err-NotYet.ensures.refused))

pub returns-in-Err-NoTable-clause-turns : goal.returns-in-Err-NoTable-clause-turns
returns-in-Err-NoTable-clause-turns g c =
    let r = rw c.in-Err-NoTable.field-0-is at c.in-Err-NoTable.ensures.refused in
    stepping.unopened g.S.Steps.sound _ _ c.args.table c.args.index _ r.0 r.1 (λ n. tt)

pub returns-in-Err-BelowHorizon-clause-turns : goal.returns-in-Err-BelowHorizon-clause-turns
returns-in-Err-BelowHorizon-clause-turns g c =
    let r = rw c.in-Err-BelowHorizon.field-0-is at c.in-Err-BelowHorizon.ensures.refused in
    rw c.in-Err-BelowHorizon.field-0-is (stepping.unopened g.S.Steps.sound _ _ c.args.table c.args.index _ r.0 r.1 (λ n. tt))

pub returns-in-Err-Closed-clause-turns : goal.returns-in-Err-Closed-clause-turns
returns-in-Err-Closed-clause-turns g c =
    let r = rw c.in-Err-Closed.field-0-is at c.in-Err-Closed.ensures.refused in
    rw c.in-Err-Closed.field-0-is (stepping.unopened g.S.Steps.sound _ _ c.args.table c.args.index _ r.0 r.1 (λ n. tt))

pub returns-in-Err-Memory-clause-turns : goal.returns-in-Err-Memory-clause-turns
returns-in-Err-Memory-clause-turns g c =
    let r = rw c.in-Err-Memory.field-0-is at c.in-Err-Memory.ensures.refused in
    stepping.unopened g.S.Steps.sound _ _ c.args.table c.args.index _ tt r.1 (λ n. tt)
