use Rattle.std.proofs.Common.{◌≡◌, ◌<◌, ◌+◌, Err, inl, inr, ap, subst, arith}
use Rattle.px_beginning.specs.Refused.{IsRefusedAt}
use Rattle.px_beginning.specs.declared.fault.BeginFault.TheVariants.{Busy}
use Rattle.px_beginning.proofs.promising.take.Goals as goal

pub returns-in-Err-Busy-clause-cause : goal.returns-in-Err-Busy-clause-cause
returns-in-Err-Busy-clause-cause c fault e =
    let same : Busy c.number-number.result c.in-Err-Busy.cells c.in-Err-Busy.bytes ≡ fault = cc in
    let w = (c.in-Err-Busy.ensures.busy c.in-Err-Busy.cells c.in-Err-Busy.bytes).0 (ap Err c.in-Err-Busy.field-0-is) in
    let asked : 0 < c.args.room.cells + c.args.room.bytes = elim c.else-room-eq0.either [ inl a ↦ (let b = a.1 in omega (arith, b)) | inr a ↦ omega (arith, a) ] in
    subst (IsRefusedAt c.args.region.now c.args.room) same (c.number-number.ensures, asked, w)
