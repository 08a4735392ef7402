use Rattle.px_scan.proofs.Going as going
use Rattle.px_scan.proofs.machine.follow.Goals as goal

pub returns-in-Ok-clause-goes : goal.returns-in-Ok-clause-goes
returns-in-Ok-clause-goes g c = λ scn k h. going.follows g.S.Steps.sound k _ scn _ _ _ c.requires.rows h c.in-Ok.ensures.ok

pub returns-in-Err-IndexJoin-clause-goes : goal.returns-in-Err-IndexJoin-clause-goes
returns-in-Err-IndexJoin-clause-goes g c = λ scn k h. going.joined-on g.S.Steps.sound k _ scn _ h (c.in-Err-IndexJoin.ensures.joined c.in-Err-IndexJoin.field-0-is)
