use Rattle.std.proofs.Common.{refl}
use Rattle.px_scan.specs.Turns.{frame}
use Rattle.px_scan.proofs.Going as going
use Rattle.px_scan.proofs.Turning as turning
use Rattle.px_scan.proofs.Bounding as bounding
use Rattle.px_scan.proofs.Looking as looking
use Rattle.px_scan.proofs.Mending as mending
use Rattle.px_scan.proofs.machine.go_on.Goals as goal

pub returns-in-Doubt-clause-goes : goal.returns-in-Doubt-clause-goes
returns-in-Doubt-clause-goes g c = λ scn k s.
    let e = λ (is_sound : g.S.Steps.sound). rw c.in-Doubt.is at (c.keep_sure.ensures.gathers (frame (g.Q.Asks.asked c.args.query.now) k c.args.x) k.seen c.args.rest.next refl s.path (s.pending is_sound)) in
    let d = rw c.in-Doubt.is at (c.keep_sure.ensures.doubts c.args.x.point.found c.args.x.path.by s.doubts) in
    turning.goes-consulting g.S.Steps.sound k _ scn _ _ _ (record { reading = s.reading; path = s.path; doubts = d; pending = λ is_sound. (e is_sound).1 }) (λ is_sound. (e is_sound).0)

pub returns-in-None-clause-goes : goal.returns-in-None-clause-goes
returns-in-None-clause-goes g c = λ scn k s.
    let e = λ (is_sound : g.S.Steps.sound). rw c.in-End.is at (c.keep_sure.ensures.gathers (frame (g.Q.Asks.asked c.args.query.now) k c.args.x) k.seen c.args.rest.next refl s.path (s.pending is_sound)) in
    going.all-on g.S.Steps.sound k _ scn _ _ _ _ c.ended.ensures c.in-None.is s.reading s.path e

pub returns-then-is_full-clause-goes : goal.returns-then-is_full-clause-goes
returns-then-is_full-clause-goes g c = λ scn k s.
    let e = λ (is_sound : g.S.Steps.sound). rw c.in-End.is at (c.keep_sure.ensures.gathers (frame (g.Q.Asks.asked c.args.query.now) k c.args.x) k.seen c.args.rest.next refl s.path (s.pending is_sound)) in
    going.full-on g.S.Steps.sound k _ scn _ _ _ _ c.ended-then-is_full.ensures (going.full-of (frame (g.Q.Asks.asked c.args.query.now) k c.args.x) _ _ _ _ _ refl c.as_slice.ensures.value c.is_full.ensures c.if-is_full.true) s.reading s.path e

pub returns-in-End-clause-goes : goal.returns-in-End-clause-goes
returns-in-End-clause-goes g c = λ scn k s.
    let e = λ (is_sound : g.S.Steps.sound). rw c.in-End.is at (c.keep_sure.ensures.gathers (frame (g.Q.Asks.asked c.args.query.now) k c.args.x) k.seen c.args.rest.next refl s.path (s.pending is_sound)) in
    going.more-on g.S.Steps.sound k _ scn _ _ _ _ c.in-Some.is s.reading s.path e

pub returns-in-Full-clause-goes : goal.returns-in-Full-clause-goes
returns-in-Full-clause-goes g c = λ scn k s.
    let e = λ (is_sound : g.S.Steps.sound). rw c.in-Full.is at (c.keep_sure.ensures.gathers (frame (g.Q.Asks.asked c.args.query.now) k c.args.x) k.seen c.args.rest.next refl s.path (s.pending is_sound)) in
    going.ended-on g.S.Steps.sound k _ scn _ _ _ _ c.ended-in-Full.ensures s.reading s.path e

pub returns-clause-goes : goal.returns-clause-goes
returns-clause-goes g c = λ scn k s. going.no-memory-on g.S.Steps.sound k _ scn _ _ c.failed.ensures s.reading

pub returns-in-Doubt-clause-left : goal.returns-in-Doubt-clause-left
returns-in-Doubt-clause-left g c = bounding.consulting_left _ _ c.args.rest.next (rw c.in-Doubt.is at c.keep_sure.ensures.fewer)

pub returns-in-None-clause-left : goal.returns-in-None-clause-left
returns-in-None-clause-left g c = bounding.closing_left _ _ _ _ _ c.ended.ensures

pub returns-then-is_full-clause-left : goal.returns-then-is_full-clause-left
returns-then-is_full-clause-left g c = bounding.closing_left _ _ _ _ _ c.ended-then-is_full.ensures

pub returns-in-End-clause-left : goal.returns-in-End-clause-left
returns-in-End-clause-left g c = bounding.looking_left c.args.rest.keys.items _ _ c.in-Some.is

pub returns-in-Full-clause-left : goal.returns-in-Full-clause-left
returns-in-Full-clause-left g c = bounding.closing_left _ _ _ _ _ c.ended-in-Full.ensures

pub returns-clause-left : goal.returns-clause-left
returns-clause-left g c = bounding.closing_left _ _ _ _ _ c.failed.ensures

pub returns-in-Doubt-clause-to_look : goal.returns-in-Doubt-clause-to_look
returns-in-Doubt-clause-to_look g c = looking.consulting_look _ _ (rw c.in-Doubt.is at c.keep_sure.ensures.fewer_doubts)

pub returns-in-None-clause-to_look : goal.returns-in-None-clause-to_look
returns-in-None-clause-to_look g c = looking.closing_look _ _ _ _ c.ended.ensures

pub returns-then-is_full-clause-to_look : goal.returns-then-is_full-clause-to_look
returns-then-is_full-clause-to_look g c = looking.closing_look _ _ _ _ c.ended-then-is_full.ensures

pub returns-in-Full-clause-to_look : goal.returns-in-Full-clause-to_look
returns-in-Full-clause-to_look g c = looking.closing_look _ _ _ _ c.ended-in-Full.ensures

pub returns-clause-to_look : goal.returns-clause-to_look
returns-clause-to_look g c = looking.closing_look _ _ _ _ c.failed.ensures

pub returns-in-Doubt-clause-doubts : goal.returns-in-Doubt-clause-doubts
returns-in-Doubt-clause-doubts g c = λ f k low h. rw c.in-Doubt.is at (c.keep_sure.ensures.doubtful f c.args.x.point low h)

pub returns-in-None-clause-doubts : goal.returns-in-None-clause-doubts
returns-in-None-clause-doubts g c = λ f k low h. mending.closed_doubts f k _ _ _ c.ended.ensures

pub returns-then-is_full-clause-doubts : goal.returns-then-is_full-clause-doubts
returns-then-is_full-clause-doubts g c = λ f k low h. mending.closed_doubts f k _ _ _ c.ended-then-is_full.ensures

pub returns-in-Full-clause-doubts : goal.returns-in-Full-clause-doubts
returns-in-Full-clause-doubts g c = λ f k low h. mending.closed_doubts f k _ _ _ c.ended-in-Full.ensures

pub returns-clause-doubts : goal.returns-clause-doubts
returns-clause-doubts g c = λ f k low h. mending.closed_doubts f k _ _ _ c.failed.ensures
