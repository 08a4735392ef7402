use Rattle.std.proofs.Common.{refl, inl, inr, arith}
use Rattle.px_batching.proofs.After.{has_closed, has_closes, still_verifying}
use Rattle.px_batching.proofs.Places.{within}
use Rattle.px_batching.proofs.Right.{right_verified}
use Rattle.px_batching.proofs.verifying.verify.Goals as goal

pub finish_verifying-requires : goal.finish_verifying-requires
finish_verifying-requires g c = has_closed c.args.group.now c.args.place c.requires.verifying c.index.result.now c.index.ensures c.to_close.result c.to_close.ensures c.if-to_close-eq0.true

pub returns-then-to_close-eq0-clause-steps : goal.returns-then-to_close-eq0-clause-steps
returns-then-to_close-eq0-clause-steps g c = record { middle = c.args.group.now; before = inl (refl, refl); last = c.finish_verifying.ensures }

pub verify_index-requires-clause-left : goal.verify_index-requires-clause-left
verify_index-requires-clause-left g c = (let n = c.if-to_close-eq0.false in has_closes c.args.group.now c.args.place c.requires.verifying c.index.result.now c.index.ensures c.to_close.result c.to_close.ensures (omega arith))

pub index-requires-2 : goal.index-requires-2
index-requires-2 g c =
    (let h = still_verifying g.D.Disk c.args.group.now c.verify_index.new.group c.args.disk.now c.verify_index.new.disk c.args.place c.verify_index.ensures.hands in
    let l = within c.verify_index.new.group.batches.items c.args.place h.batch h.is in
    let o = c.verify_index.new.group.batches.ok.0 in
    omega arith)

pub returns-then-to_close-gt0-clause-steps : goal.returns-then-to_close-gt0-clause-steps
returns-then-to_close-gt0-clause-steps g c =
    (c.in_ok-verify_index.ensures.written, has_closes c.verify_index.new.group c.args.place (still_verifying g.D.Disk c.args.group.now c.verify_index.new.group c.args.disk.now c.verify_index.new.disk c.args.place c.verify_index.ensures.hands) c.index-2.result.now c.index-2.ensures c.to_close-2.result c.to_close-2.ensures c.if-to_close-gt0.true)

pub finish_verifying-requires-2 : goal.finish_verifying-requires-2
finish_verifying-requires-2 g c =
    (let n = c.if-to_close-gt0.false in has_closed c.verify_index.new.group c.args.place (still_verifying g.D.Disk c.args.group.now c.verify_index.new.group c.args.disk.now c.verify_index.new.disk c.args.place c.verify_index.ensures.hands) c.index-2.result.now c.index-2.ensures c.to_close-2.result c.to_close-2.ensures (omega arith))

pub returns-clause-steps : goal.returns-clause-steps
returns-clause-steps g c = record { middle = c.verify_index.new.group; before = inr c.in_ok-verify_index.ensures.written; last = c.finish_verifying-2.ensures }

pub returns-then-to_close-eq0-clause-right : goal.returns-then-to_close-eq0-clause-right
returns-then-to_close-eq0-clause-right g c = right_verified c.args.group.now c.finish_verifying.new.group c.args.place c.requires.right c.finish_verifying.ensures

pub returns-then-to_close-gt0-clause-right : goal.returns-then-to_close-gt0-clause-right
returns-then-to_close-gt0-clause-right g c = c.in_ok-verify_index.ensures.right

pub returns-clause-right : goal.returns-clause-right
returns-clause-right g c = right_verified c.verify_index.new.group c.finish_verifying-2.new.group c.args.place c.in_ok-verify_index.ensures.right c.finish_verifying-2.ensures
