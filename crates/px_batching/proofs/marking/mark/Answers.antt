use Rattle.std.proofs.Common.{refl, inl, inr, arith}
use Rattle.px_batching.proofs.After.{has_marked, has_marks, still_marking}
use Rattle.px_batching.proofs.Places.{within}
use Rattle.px_batching.proofs.Right.{right_marked}
use Rattle.px_batching.proofs.marking.mark.Goals as goal

pub finish_marking-requires : goal.finish_marking-requires
finish_marking-requires g c = has_marked c.args.group.now c.args.place c.requires.marking c.index.result.now c.index.ensures c.to_mark.result c.to_mark.ensures c.if-to_mark-eq0.true

pub returns-then-to_mark-eq0-clause-steps : goal.returns-then-to_mark-eq0-clause-steps
returns-then-to_mark-eq0-clause-steps g c = record { middle = c.args.group.now; before = inl (refl, refl); last = c.finish_marking.ensures }

pub mark_index-requires-clause-left : goal.mark_index-requires-clause-left
mark_index-requires-clause-left g c = (let n = c.if-to_mark-eq0.false in has_marks c.args.group.now c.args.place c.requires.marking c.index.result.now c.index.ensures c.to_mark.result c.to_mark.ensures (omega arith))

pub index-requires-2 : goal.index-requires-2
index-requires-2 g c =
    (let h = still_marking g.D.Disk c.args.group.now c.mark_index.new.group c.args.disk.now c.mark_index.new.disk c.args.place c.mark_index.ensures.hands in
    let l = within c.mark_index.new.group.batches.items c.args.place h.batch h.is in
    let o = c.mark_index.new.group.batches.ok.0 in
    omega arith)

pub returns-then-to_mark-gt0-clause-steps : goal.returns-then-to_mark-gt0-clause-steps
returns-then-to_mark-gt0-clause-steps g c =
    (c.in_ok-mark_index.ensures.written, has_marks c.mark_index.new.group c.args.place (still_marking g.D.Disk c.args.group.now c.mark_index.new.group c.args.disk.now c.mark_index.new.disk c.args.place c.mark_index.ensures.hands) c.index-2.result.now c.index-2.ensures c.to_mark-2.result c.to_mark-2.ensures c.if-to_mark-gt0.true)

pub finish_marking-requires-2 : goal.finish_marking-requires-2
finish_marking-requires-2 g c =
    (let n = c.if-to_mark-gt0.false in has_marked c.mark_index.new.group c.args.place (still_marking g.D.Disk c.args.group.now c.mark_index.new.group c.args.disk.now c.mark_index.new.disk c.args.place c.mark_index.ensures.hands) c.index-2.result.now c.index-2.ensures c.to_mark-2.result c.to_mark-2.ensures (omega arith))

pub returns-clause-steps : goal.returns-clause-steps
returns-clause-steps g c = record { middle = c.mark_index.new.group; before = inr c.in_ok-mark_index.ensures.written; last = c.finish_marking-2.ensures }

pub returns-then-to_mark-eq0-clause-right : goal.returns-then-to_mark-eq0-clause-right
returns-then-to_mark-eq0-clause-right g c = right_marked c.args.group.now c.finish_marking.new.group c.args.place c.requires.right c.finish_marking.ensures

pub returns-then-to_mark-gt0-clause-right : goal.returns-then-to_mark-gt0-clause-right
returns-then-to_mark-gt0-clause-right g c = c.in_ok-mark_index.ensures.right

pub returns-clause-right : goal.returns-clause-right
returns-clause-right g c = right_marked c.mark_index.new.group c.finish_marking-2.new.group c.args.place c.in_ok-mark_index.ensures.right c.finish_marking-2.ensures
