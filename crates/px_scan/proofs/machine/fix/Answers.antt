use Rattle.std.proofs.Common.{refl, ◌≡◌, true, false, Some, arith}
use Rattle.px_scan.specs.Faults.{is_busy}
use Rattle.px_scan.proofs.Quieting as quieting
use Rattle.px_scan.proofs.Turning as turning
use Rattle.px_scan.proofs.Bounding as bounding
use Rattle.px_scan.proofs.Looking as looking
use Rattle.px_scan.proofs.Mending as mending
use Rattle.px_scan.proofs.machine.fix.Goals as goal

pub fault_of-requires : goal.fault_of-requires
fault_of-requires g c =
    let no : is_busy c.in-Err.f ≡ false = cc in
    (quieting.fix_ends g.S.Steps.sound (g.Q.Asks.asked c.args.query.now) _ _ c.in-Err.f c.in-Err.ensures.refused no).ends

pub returns-then-is_busy-clause-turns : goal.returns-then-is_busy-clause-turns
returns-then-is_busy-clause-turns g c =
    let yes : is_busy c.in-Err.f ≡ true = cc in
    let quiet = quieting.fix_busy g.S.Steps.sound _ _ c.in-Err.f c.in-Err.ensures.refused yes in
    turning.steps g.S.Steps.sound _ _ (g.Q.Asks.asked c.args.query.now) c.args.scn c.args.x.point _ _ quiet refl tt (λ n le. le)
    (turning.goes-settling g.S.Steps.sound _ _ _ c.args.x c.args.rest c.args.doubt (turning.grown-scanning g.S.Steps.sound _ _ _ _ _ _ _ _ (quieting.grown-quiet _ _ quiet) c.requires.0) c.requires.1) refl

pub returns-in-Ok-clause-turns : goal.returns-in-Ok-clause-turns
returns-in-Ok-clause-turns g c =
    let quiet = quieting.quiet-fixes _ _ _ _ c.in-Ok.ensures.ok in
    let s = turning.grown-scanning g.S.Steps.sound _ _ _ _ _ _ _ _ (quieting.grown-quiet _ _ quiet) c.requires.0 in
    turning.steps g.S.Steps.sound _ _ (g.Q.Asks.asked c.args.query.now) c.args.scn c.args.x.point _ _ quiet refl tt (λ n le. le) (c.go_on.ensures.goes c.args.scn _ s) (turning.after-fix _ _ _ _ _ c.go_on.ensures.next c.in-Ok.ensures.ok)

pub returns-else-is_busy-clause-turns : goal.returns-else-is_busy-clause-turns
returns-else-is_busy-clause-turns g c =
    let no : is_busy c.in-Err.f ≡ false = cc in
    let e = quieting.fix_ends g.S.Steps.sound (g.Q.Asks.asked c.args.query.now) _ _ c.in-Err.f c.in-Err.ensures.refused no in
    turning.fails g.S.Steps.sound _ _ (g.Q.Asks.asked c.args.query.now) c.args.scn c.args.x.point _ _ _ c.failed.ensures c.requires.0.reading refl tt (λ n le. le) e.quiet (rw c.fault_of.ensures e.told) (rw c.fault_of.ensures (e.made c.args.x.point.found.at c.requires.0.reading.point.within)) tt

pub returns-then-is_busy-clause-spends : goal.returns-then-is_busy-clause-spends
returns-then-is_busy-clause-spends g c = bounding.spends_refused g.S.Steps.sound _ _ _ _ c.args.rest _ _

pub returns-in-Ok-clause-spends : goal.returns-in-Ok-clause-spends
returns-in-Ok-clause-spends g c = bounding.spends_fixing g.S.Steps.sound _ _ c.args.x c.args.rest c.args.doubt _ c.go_on.ensures.left

pub returns-else-is_busy-clause-spends : goal.returns-else-is_busy-clause-spends
returns-else-is_busy-clause-spends g c = bounding.spends_end g.S.Steps.sound _ _ _ _ _ _ _ c.failed.ensures refl (bounding.at_least c.args.x c.args.rest c.args.doubt)

pub returns-then-is_busy-clause-looks : goal.returns-then-is_busy-clause-looks
returns-then-is_busy-clause-looks g c = λ alone. looking.looks_refused g.S.Steps.sound _ _ _ _ _ _ _ c.args.rest _ _ (c.fix.ensures.looked_once alone)

pub returns-in-Ok-clause-looks : goal.returns-in-Ok-clause-looks
returns-in-Ok-clause-looks g c = λ alone. looking.looks_one g.S.Steps.sound _ _ _ _ _ _ _ refl (c.fix.ensures.looked_once alone) refl (let most = c.go_on.ensures.to_look in omega arith)

pub returns-else-is_busy-clause-looks : goal.returns-else-is_busy-clause-looks
returns-else-is_busy-clause-looks g c = λ alone. looking.looks_one g.S.Steps.sound _ _ _ _ _ _ _ refl (c.fix.ensures.looked_once alone) refl (let none = looking.closing_look _ _ _ 0 c.failed.ensures in omega arith)

pub returns-then-is_busy-clause-doubts : goal.returns-then-is_busy-clause-doubts
returns-then-is_busy-clause-doubts g c = λ alone sound.
    let yes : is_busy c.in-Err.f ≡ true = cc in
    mending.refused_doubt g.S.Steps.sound _ _ _ _ c.args.x c.args.rest c.args.doubt c.in-Err.f alone c.requires.0.reading.is_open yes c.in-Err.ensures.refused (c.in-Err.ensures.still alone)

pub returns-in-Ok-clause-doubts : goal.returns-in-Ok-clause-doubts
returns-in-Ok-clause-doubts g c = λ alone sound.
    mending.fixes_doubt _ _ _ _ c.args.x c.args.rest c.args.doubt _ _ alone c.requires.0.reading.is_open c.in-Ok.ensures.ok (c.in-Ok.ensures.there alone sound) (c.in-Ok.ensures.others alone sound) (c.go_on.ensures.doubts (g.S.Steps.doubtful c.fix.new.self) (g.S.Steps.known c.fix.new.self) (Some c.args.doubt.key))

pub returns-else-is_busy-clause-doubts : goal.returns-else-is_busy-clause-doubts
returns-else-is_busy-clause-doubts g c = λ alone sound. mending.closes_doubts _ _ _ _ _ _ _ _ c.failed.ensures
