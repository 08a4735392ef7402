use Rattle.std.proofs.Common.{◌≡◌, ◌-◌, length, set, List, refl, ap, arith}
use Rattle.px_cells.specs.CellData.{CellData}
use Rattle.px_keptcells.specs.Kept.{laid}
use Rattle.px_phases.specs.Batch.{BatchData}
use Rattle.px_group.specs.Room.{byte_count}
use Rattle.px_batching.proofs.Right.{right_closes}
use Rattle.px_batching.proofs.Ready.{item_at, ok_both, ok_one, place_for, ready_closes, room_for, uses_same}
use Rattle.px_batching.proofs.Shapes.{but_fewer, but_shorter}
use Rattle.px_batching.proofs.verifying.verify_index.Goals as goal

pub hand_some-requires : goal.hand_some-requires
hand_some-requires g c =
    let z = c.index_mut-begun.result.now in
    let n = ready_closes c.args.group.now c.args.place c.requires.right c.requires.left z c.index_mut-begun.ensures.value in
    let h = (c.take_closes-cells.ensures n.parts n.rest n.kept_is).0 in
    let k = c.next_closes-kept.ensures n.parts n.rest n.kept_is in
    let all : length (laid c.next_closes-kept.result.now) ≡ length (laid n.parts) = ap (λ (p : List (List CellData)). length (laid p)) k in
    let all_bytes : byte_count (laid c.next_closes-kept.result.now) ≡ byte_count (laid n.parts) = ap (λ (p : List (List CellData)). byte_count (laid p)) k in
    let fewer = but_fewer z.batch.met n.parts in
    let shorter = but_shorter z.batch.met n.parts in
    let y = room_for n c.to_close.result c.to_close.ensures c.index_mut.result.now c.index_mut.ensures.value in
    let y0 = y.0 in
    let y1 = y.1 in
    let l = n.light in
    let few = c.index_mut.result.now.region.few in
    let count = h.count in
    let bytes = h.bytes in
    let counted = c.count-count.ensures in
    let weighed = c.bytes-bytes.ensures in
    record {
      written = h.written;
      fewer = omega arith;
      shorter = omega arith;
      promised = omega arith;
      promised_bytes = omega arith;
      light = omega arith;
      room = c.requires.room;
    }

pub returns-clause-hands : goal.returns-clause-hands
returns-clause-hands g c =
    let z = c.index_mut-begun.result.now in
    let n = ready_closes c.args.group.now c.args.place c.requires.right c.requires.left z c.index_mut-begun.ensures.value in
    let t = c.take_closes-cells.ensures n.parts n.rest n.kept_is in
    let p = place_for n c.to_close.result c.to_close.ensures in
    record {
      batch = z;
      verifying = n.phase_is;
      parts = n.parts;
      rest = n.rest;
      kept = n.kept_is;
      place = z.count - c.to_close.result;
      next = p.0;
      index = c.index_mut.result.now;
      region = c.hand_some.new.region;
      cells = c.take_closes-cells.result;
      handed = t.0;
      step = record {
        step = record {
          batch = n.at;
          batches = ap (λ (b : BatchData). set c.args.group.now.batches.items c.args.place (record z { batch = b })) t.1;
          table = refl;
          points = refl;
          last = refl;
          horizon = refl;
        };
        index = item_at c.args.group.now.indexes.items (z.count - c.to_close.result) c.index_mut.result.now p.1 c.index_mut.ensures.value;
        rows = refl;
        indexes = refl;
      };
      writes = c.hand_some.ensures.writes;
    }

pub returns-clause-written : goal.returns-clause-written
unfolding returns-clause-hands
returns-clause-written g c =
    let z = c.index_mut-begun.result.now in
    let n = ready_closes c.args.group.now c.args.place c.requires.right c.requires.left z c.index_mut-begun.ensures.value in
    let k = c.next_closes-kept.ensures n.parts n.rest n.kept_is in
    let all : length (laid c.next_closes-kept.result.now) ≡ length (laid n.parts) = ap (λ (p : List (List CellData)). length (laid p)) k in
    let all_bytes : byte_count (laid c.next_closes-kept.result.now) ≡ byte_count (laid n.parts) = ap (λ (p : List (List CellData)). byte_count (laid p)) k in
    let y = room_for n c.to_close.result c.to_close.ensures c.index_mut.result.now c.index_mut.ensures.value in
    let y0 = y.0 in
    let l = n.light in
    let few = c.index_mut.result.now.region.few in
    let counted = c.count-count.ensures in
    let weighed = c.bytes-bytes.ensures in
    ok_both c.hand_some.result _ _ _ c.hand_some.ensures.written c.hand_some.ensures.used
    (λ w u. record { hands = returns-clause-hands g c; written = w; room = uses_same _ _ _ _ _ _ u (omega arith) (omega arith) })

pub returns-clause-right : goal.returns-clause-right
returns-clause-right g c = ok_one c.hand_some.result _ _ (returns-clause-written g c) (λ w. right_closes g.D.Disk c.args.group.now _ c.args.disk.now c.hand_some.new.disk c.args.place c.requires.right w)
