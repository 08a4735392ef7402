use Rattle.std.proofs.Common.{refl, inl, arith}
use Rattle.px_scan.proofs.Going as going
use Rattle.px_scan.proofs.Quieting as quieting
use Rattle.px_scan.proofs.Turning as turning
use Rattle.px_scan.proofs.Bounding as bounding
use Rattle.px_scan.proofs.Looking as looking
use Rattle.px_scan.proofs.Mending as mending
use Rattle.px_scan.proofs.machine.look.Goals as goal

pub fault_of-requires : goal.fault_of-requires
fault_of-requires g c = (quieting.read_ends g.S.Steps.sound (g.Q.Asks.asked c.args.query.now) _ _ c.in-Err.f c.in-Err.ensures.refused).ends

pub returns-in-Ok-clause-turns : goal.returns-in-Ok-clause-turns
returns-in-Ok-clause-turns g c =
    let l = turning.looked g.S.Steps.sound _ _ (g.Q.Asks.asked c.args.query.now) c.args.scn c.args.x c.args.after _ c.requires c.in-Ok.ensures.ok in
    turning.steps g.S.Steps.sound _ _ (g.Q.Asks.asked c.args.query.now) c.args.scn c.args.x.point _ _ (quieting.quiet-sees _ _ c.in-Ok.ensures.ok.finds.sees) refl tt (λ n le. le)
    (c.go_on.ensures.goes c.args.scn _ (going.rest-scanning g.S.Steps.sound _ _ _ _ _ c.rest_of.result c.rest_of.ensures.keys c.rest_of.ensures.next c.rest_of.ensures.at l)) (turning.after-look g.S.Steps.sound c.args.x c.args.after _ _ _ _ c.go_on.ensures.next c.in-Ok.ensures.ok)

pub returns-clause-turns : goal.returns-clause-turns
returns-clause-turns g c =
    let e = quieting.read_ends g.S.Steps.sound (g.Q.Asks.asked c.args.query.now) _ _ c.in-Err.f c.in-Err.ensures.refused in
    turning.fails g.S.Steps.sound _ _ (g.Q.Asks.asked c.args.query.now) c.args.scn c.args.x.point _ _ _ c.failed.ensures c.requires.0 refl tt (λ n le. le) e.quiet (rw c.fault_of.ensures e.told) (rw c.fault_of.ensures (e.made c.args.x.point.found.at c.requires.0.point.within)) tt

pub returns-in-Ok-clause-spends : goal.returns-in-Ok-clause-spends
returns-in-Ok-clause-spends g c = bounding.spends_look g.S.Steps.sound _ _ c.args.x c.args.after _ _ _ _ c.rest_of.ensures.keys c.rest_of.ensures.next c.in-Ok.ensures.ok c.go_on.ensures.left

pub returns-clause-spends : goal.returns-clause-spends
returns-clause-spends g c = bounding.spends_end g.S.Steps.sound _ _ _ _ _ _ _ c.failed.ensures (inl refl) (omega arith)

pub returns-in-Ok-clause-looks : goal.returns-in-Ok-clause-looks
returns-in-Ok-clause-looks g c = λ alone is. looking.looks_chunk g.S.Steps.sound _ _ _ _ _ c.args.x c.args.after _ _ _ c.rest_of.ensures.keys c.in-Ok.ensures.ok (λ so. c.in-Ok.ensures.doubts alone so) (c.look.ensures.unlooked alone is.0 is.1) c.go_on.ensures.to_look

pub returns-clause-looks : goal.returns-clause-looks
returns-clause-looks g c = λ alone is. looking.looks_none g.S.Steps.sound _ _ _ _ _ _ _ (inl refl) (c.look.ensures.unlooked alone is.0 is.1) (looking.closing_look _ _ _ _ c.failed.ensures)

pub returns-in-Ok-clause-doubts : goal.returns-in-Ok-clause-doubts
returns-in-Ok-clause-doubts g c = λ alone sound.
    let d = c.in-Ok.ensures.doubts alone sound in
    let r = c.in-Ok.ensures.ok.shows.rising in
    record {
      kept = λ h. c.go_on.ensures.doubts (g.S.Steps.doubtful c.look.new.self) (g.S.Steps.known c.look.new.self) c.args.after (mending.rest_rising (g.S.Steps.doubtful c.look.new.self) c.args.x.point c.args.after _ c.rest_of.result.keys.items c.rest_of.ensures.keys r d);
      fixed = λ h. tt;
    }

pub returns-clause-doubts : goal.returns-clause-doubts
returns-clause-doubts g c = λ alone sound. mending.closes_doubts _ _ _ _ _ _ _ _ c.failed.ensures
