use Rattle.std.proofs.Common.{refl, arith}
use Rattle.px_scan.proofs.Quieting as quieting
use Rattle.px_scan.proofs.Turning as turning
use Rattle.px_scan.proofs.Bounding as bounding
use Rattle.px_scan.proofs.Looking as looking
use Rattle.px_scan.proofs.Mending as mending
use Rattle.px_scan.proofs.machine.consult.Goals as goal

pub consult-requires-clause-doubt : goal.consult-requires-clause-doubt
consult-requires-clause-doubt g c = turning.can-consult g.S.Steps.sound _ _ _ _ _ _ _ _ c.requires.0

pub fault_of-requires : goal.fault_of-requires
fault_of-requires g c = (quieting.read_ends g.S.Steps.sound (g.Q.Asks.asked c.args.query.now) _ _ c.in-Err.f c.in-Err.ensures.refused).ends

pub returns-in-Ok-keep_held-clause-turns : goal.returns-in-Ok-keep_held-clause-turns
returns-in-Ok-keep_held-clause-turns g c = turning.consults g.S.Steps.sound _ _ (g.Q.Asks.asked c.args.query.now) c.args.scn c.args.x _ c.args.rest c.args.doubt _ _ refl refl c.requires c.in-Ok.ensures.ok c.in-Ok-keep_held.ensures.ok

pub returns-in-Err-keep_held-clause-turns : goal.returns-in-Err-keep_held-clause-turns
returns-in-Err-keep_held-clause-turns g c =
    turning.fails g.S.Steps.sound _ _ (g.Q.Asks.asked c.args.query.now) c.args.scn c.args.x.point _ _ _ c.failed.ensures c.requires.0.reading refl tt (λ n le. le) (quieting.quiet-sees _ _ c.in-Ok.ensures.ok.finds.sees) (turning.no-memory g.S.Steps.sound (g.Q.Asks.asked c.args.query.now) _ _ c.in-Err-keep_held.ensures.err) (turning.no-memory-made _ _ _ c.in-Err-keep_held.ensures.err) tt

pub returns-in-Err-clause-turns : goal.returns-in-Err-clause-turns
returns-in-Err-clause-turns g c =
    let e = quieting.read_ends g.S.Steps.sound (g.Q.Asks.asked c.args.query.now) _ _ c.in-Err.f c.in-Err.ensures.refused in
    turning.fails g.S.Steps.sound _ _ (g.Q.Asks.asked c.args.query.now) c.args.scn c.args.x.point _ _ _ c.failed-in-Err.ensures c.requires.0.reading refl tt (λ n le. le) e.quiet (rw c.fault_of.ensures e.told) (rw c.fault_of.ensures (e.made c.args.x.point.found.at c.requires.0.reading.point.within)) tt

pub returns-in-Ok-keep_held-clause-spends : goal.returns-in-Ok-keep_held-clause-spends
returns-in-Ok-keep_held-clause-spends g c = bounding.spends_consulting g.S.Steps.sound _ _ _ _ c.args.rest _ _

pub returns-in-Err-keep_held-clause-spends : goal.returns-in-Err-keep_held-clause-spends
returns-in-Err-keep_held-clause-spends g c = bounding.spends_end g.S.Steps.sound _ _ _ _ _ _ _ c.failed.ensures refl (omega arith)

pub returns-in-Err-clause-spends : goal.returns-in-Err-clause-spends
returns-in-Err-clause-spends g c = bounding.spends_end g.S.Steps.sound _ _ _ _ _ _ _ c.failed-in-Err.ensures refl (omega arith)

pub returns-in-Ok-keep_held-clause-looks : goal.returns-in-Ok-keep_held-clause-looks
returns-in-Ok-keep_held-clause-looks g c = λ alone. looking.looks_one g.S.Steps.sound _ _ _ _ _ _ _ refl (c.consult.ensures.looked_once alone) refl (omega arith)

pub returns-in-Err-keep_held-clause-looks : goal.returns-in-Err-keep_held-clause-looks
returns-in-Err-keep_held-clause-looks g c = λ alone. looking.looks_one g.S.Steps.sound _ _ _ _ _ _ _ refl (c.consult.ensures.looked_once alone) refl (let none = looking.closing_look _ _ _ 0 c.failed.ensures in omega arith)

pub returns-in-Err-clause-looks : goal.returns-in-Err-clause-looks
returns-in-Err-clause-looks g c = λ alone. looking.looks_one g.S.Steps.sound _ _ _ _ _ _ _ refl (c.consult.ensures.looked_once alone) refl (let none = looking.closing_look _ _ _ 0 c.failed-in-Err.ensures in omega arith)

pub returns-in-Ok-keep_held-clause-doubts : goal.returns-in-Ok-keep_held-clause-doubts
returns-in-Ok-keep_held-clause-doubts g c = λ alone sound.
    record {
      kept = λ h. (
        mending.consulted_doubtful g.S.Steps.sound (g.S.Steps.known c.args.s.now) (g.S.Steps.known c.consult.new.self) (g.S.Steps.doubtful c.consult.new.self) c.args.x.point c.args.doubt c.consult.new.d _ c.args.rest.keys.items c.in-Ok.ensures.ok
            (mending.still_doubtful (g.S.Steps.known c.args.s.now) (g.S.Steps.doubtful c.args.s.now) (g.S.Steps.doubtful c.consult.new.self) c.args.x.point c.args.doubt c.args.rest.keys.items (c.consult.ensures.still alone) c.requires.0.reading.is_open h),
        mending.consulted_due g.S.Steps.sound (g.S.Steps.known c.args.s.now) (g.S.Steps.known c.consult.new.self) c.args.x.point c.args.doubt c.consult.new.d _ c.in-Ok.ensures.ok,
      );
      fixed = λ h. tt;
    }

pub returns-in-Err-keep_held-clause-doubts : goal.returns-in-Err-keep_held-clause-doubts
returns-in-Err-keep_held-clause-doubts g c = λ alone sound. mending.closes_doubts _ _ _ _ _ _ _ _ c.failed.ensures

pub returns-in-Err-clause-doubts : goal.returns-in-Err-clause-doubts
returns-in-Err-clause-doubts g c = λ alone sound. mending.closes_doubts _ _ _ _ _ _ _ _ c.failed-in-Err.ensures
