use Rattle.std.proofs.Common.{refl, arith}
use Rattle.px_calls.specs.declared.status.Work.TheVariants as work
use Rattle.px_scan.proofs.Quieting as quieting
use Rattle.px_scan.proofs.Turning as turning
use Rattle.px_scan.proofs.Bounding as bounding
use Rattle.px_scan.proofs.Looking as looking
use Rattle.px_scan.proofs.Mending as mending
use Rattle.px_scan.proofs.machine.settle.Goals as goal

pub fault_of-requires : goal.fault_of-requires
fault_of-requires g c = (quieting.work_ends g.S.Steps.sound (g.Q.Asks.asked c.args.query.now) _ _ c.in-Err.f c.in-Err.ensures.refused).ends

pub returns-in-Ok-Did-clause-turns : goal.returns-in-Ok-Did-clause-turns
returns-in-Ok-Did-clause-turns g c =
    let quiet = quieting.quiet-works _ _ work.Did (rw c.in-Ok-Did.field-0-is at c.in-Ok-Did.ensures.ok) in
    turning.steps g.S.Steps.sound _ _ (g.Q.Asks.asked c.args.query.now) c.args.scn c.args.x.point _ _ quiet refl tt (λ n le. le)
    (turning.goes-settling g.S.Steps.sound _ _ _ c.args.x c.args.rest c.args.doubt (turning.grown-scanning g.S.Steps.sound _ _ _ _ _ _ _ _ (quieting.grown-quiet _ _ quiet) c.requires.0) c.requires.1) refl

pub returns-in-Ok-Idle-clause-turns : goal.returns-in-Ok-Idle-clause-turns
returns-in-Ok-Idle-clause-turns g c =
    let quiet = quieting.quiet-works _ _ work.Idle (rw c.in-Ok-Idle.field-0-is at c.in-Ok-Idle.ensures.ok) in
    turning.steps g.S.Steps.sound _ _ (g.Q.Asks.asked c.args.query.now) c.args.scn c.args.x.point _ _ quiet refl tt (λ n le. le)
    (turning.goes-fixing g.S.Steps.sound _ _ _ c.args.x c.args.rest c.args.doubt (turning.grown-scanning g.S.Steps.sound _ _ _ _ _ _ _ _ (quieting.grown-quiet _ _ quiet) c.requires.0) c.requires.1) refl

pub returns-in-Err-clause-turns : goal.returns-in-Err-clause-turns
returns-in-Err-clause-turns g c =
    let e = quieting.work_ends g.S.Steps.sound (g.Q.Asks.asked c.args.query.now) _ _ c.in-Err.f c.in-Err.ensures.refused in
    turning.fails g.S.Steps.sound _ _ (g.Q.Asks.asked c.args.query.now) c.args.scn c.args.x.point _ _ _ c.failed.ensures c.requires.0.reading refl tt (λ n le. le) e.quiet (rw c.fault_of.ensures e.told) (rw c.fault_of.ensures (e.made c.args.x.point.found.at c.requires.0.reading.point.within)) tt

pub returns-in-Ok-Did-clause-spends : goal.returns-in-Ok-Did-clause-spends
returns-in-Ok-Did-clause-spends g c = bounding.spends_settling g.S.Steps.sound _ _ _ _ c.args.rest _ _

pub returns-in-Ok-Idle-clause-spends : goal.returns-in-Ok-Idle-clause-spends
returns-in-Ok-Idle-clause-spends g c = bounding.spends_settled g.S.Steps.sound _ _ _ _ c.args.rest _ _

pub returns-in-Err-clause-spends : goal.returns-in-Err-clause-spends
returns-in-Err-clause-spends g c = bounding.spends_end g.S.Steps.sound _ _ _ _ _ _ _ c.failed.ensures refl (bounding.at_least c.args.x c.args.rest c.args.doubt)

pub returns-in-Ok-Did-clause-looks : goal.returns-in-Ok-Did-clause-looks
returns-in-Ok-Did-clause-looks g c = λ alone. looking.looks_none g.S.Steps.sound _ _ _ _ _ _ _ refl (c.upkeep.ensures.unlooked alone) (omega arith)

pub returns-in-Ok-Idle-clause-looks : goal.returns-in-Ok-Idle-clause-looks
returns-in-Ok-Idle-clause-looks g c = λ alone. looking.looks_none g.S.Steps.sound _ _ _ _ _ _ _ refl (c.upkeep.ensures.unlooked alone) (omega arith)

pub returns-in-Err-clause-looks : goal.returns-in-Err-clause-looks
returns-in-Err-clause-looks g c = λ alone. looking.looks_none g.S.Steps.sound _ _ _ _ _ _ _ refl (c.upkeep.ensures.unlooked alone) (looking.closing_look _ _ _ _ c.failed.ensures)

pub returns-in-Ok-Did-clause-doubts : goal.returns-in-Ok-Did-clause-doubts
returns-in-Ok-Did-clause-doubts g c = λ alone sound. record {
  kept = λ h. mending.settles_doubt _ _ _ _ c.args.x c.args.rest c.args.doubt _ alone c.requires.0.reading.is_open c.in-Ok-Did.ensures.ok (c.in-Ok-Did.ensures.still alone sound) h;
  fixed = λ h. tt;
}

pub returns-in-Ok-Idle-clause-doubts : goal.returns-in-Ok-Idle-clause-doubts
returns-in-Ok-Idle-clause-doubts g c = λ alone sound. record {
  kept = λ h. mending.settles_doubt _ _ _ _ c.args.x c.args.rest c.args.doubt _ alone c.requires.0.reading.is_open c.in-Ok-Idle.ensures.ok (c.in-Ok-Idle.ensures.still alone sound) h;
  fixed = λ h. tt;
}

pub returns-in-Err-clause-doubts : goal.returns-in-Err-clause-doubts
returns-in-Err-clause-doubts g c = λ alone sound. mending.closes_doubts _ _ _ _ _ _ _ _ c.failed.ensures
