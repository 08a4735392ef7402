use Rattle.std.proofs.Common.{◌-◌, set, refl, ap, arith}
use Rattle.px_phases.specs.Batch.{BatchData}
use Rattle.px_batching.proofs.Right.{right_marks}
use Rattle.px_batching.proofs.Ready.{item_at, ok_both, ok_one, place_for, ready_marks, room_for, uses_same}
use Rattle.px_batching.proofs.marking.mark_index.Goals as goal

pub hand-requires : goal.hand-requires
hand-requires g c =
    let n = ready_marks c.args.group.now c.args.place c.requires.right c.requires.left c.index_mut-begun.result.now c.index_mut-begun.ensures.value in
    let h = (c.take_marks-cells.ensures n.parts n.rest n.kept_is).0 in
    let y = room_for n c.to_mark.result c.to_mark.ensures c.index_mut.result.now c.index_mut.ensures.value in
    let l = n.light in
    let count = h.count in
    let bytes = h.bytes in
    let y0 = y.0 in
    let y1 = y.1 in
    record {
      written = h.written;
      promised = omega arith;
      promised_bytes = omega arith;
      light = omega arith;
      room = c.requires.room;
    }

pub returns-clause-hands : goal.returns-clause-hands
returns-clause-hands g c =
    let z = c.index_mut-begun.result.now in
    let n = ready_marks c.args.group.now c.args.place c.requires.right c.requires.left z c.index_mut-begun.ensures.value in
    let t = c.take_marks-cells.ensures n.parts n.rest n.kept_is in
    let p = place_for n c.to_mark.result c.to_mark.ensures in
    record {
      batch = z;
      marking = n.phase_is;
      parts = n.parts;
      rest = n.rest;
      kept = n.kept_is;
      place = z.count - c.to_mark.result;
      next = p.0;
      index = c.index_mut.result.now;
      region = c.hand.new.region;
      cells = c.take_marks-cells.result;
      handed = t.0;
      step = record {
        step = record {
          batch = n.at;
          batches = ap (λ (b : BatchData). set c.args.group.now.batches.items c.args.place (record z { batch = b })) t.1;
          table = refl;
          points = refl;
          last = refl;
          horizon = refl;
        };
        index = item_at c.args.group.now.indexes.items (z.count - c.to_mark.result) c.index_mut.result.now p.1 c.index_mut.ensures.value;
        rows = refl;
        indexes = refl;
      };
      writes = c.hand.ensures.writes;
    }

pub returns-clause-written : goal.returns-clause-written
unfolding returns-clause-hands
returns-clause-written g c =
    let n = ready_marks c.args.group.now c.args.place c.requires.right c.requires.left c.index_mut-begun.result.now c.index_mut-begun.ensures.value in
    let t = c.take_marks-cells.ensures n.parts n.rest n.kept_is in
    ok_both c.hand.result _ _ _ c.hand.ensures.written c.hand.ensures.used
    (λ w u. record { hands = returns-clause-hands g c; written = w; room = uses_same _ _ _ _ _ _ u t.0.count t.0.bytes })

pub returns-clause-right : goal.returns-clause-right
returns-clause-right g c = ok_one c.hand.result _ _ (returns-clause-written g c) (λ w. right_marks g.D.Disk c.args.group.now _ c.args.disk.now c.hand.new.disk c.args.place c.requires.right w)
