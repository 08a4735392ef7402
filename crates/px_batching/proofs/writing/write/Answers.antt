use Rattle.std.proofs.Common.{set, None, refl, ap, ◌∙◌, arith}
use Rattle.px_group.specs.declared.group.Begun.{Begun}
use Rattle.px_group.specs.declared.group.Phase.TheVariants.{Verifying}
use Rattle.px_batching.proofs.After.{set_twice}
use Rattle.px_batching.proofs.Places.{within}
use Rattle.px_batching.proofs.Right.{right_puts}
use Rattle.px_batching.proofs.Ready.{ready_puts, uses_same}
use Rattle.px_batching.proofs.writing.write.Goals as goal

pub hand-requires : goal.hand-requires
hand-requires g c =
    let n = ready_puts c.args.group.now c.args.place c.requires.right c.requires.writing c.index_mut.result.now c.index_mut.ensures.value in
    let h = c.take_rows-cells.ensures.cells n.parts n.kept_is in
    let l = n.light in
    let r = n.room in
    let q = n.room_bytes in
    let count = h.count in
    let bytes = h.bytes in
    record {
      written = h.written;
      promised = omega arith;
      promised_bytes = omega arith;
      light = omega arith;
      room = c.requires.room;
    }

pub take_rows-cells-requires : goal.take_rows-cells-requires
take_rows-cells-requires g c =
    (let n = ready_puts c.args.group.now c.args.place c.requires.right c.requires.writing c.index_mut.result.now c.index_mut.ensures.value in
    record { cells = n.some; rows = n.rows_are })

pub returns-in-Err-clause-hands : goal.returns-in-Err-clause-hands
returns-in-Err-clause-hands g c =
    let z = c.index_mut.result.now in
    let n = ready_puts c.args.group.now c.args.place c.requires.right c.requires.writing z c.index_mut.ensures.value in
    record {
      batch = z;
      writing = n.phase_is;
      parts = n.parts;
      kept = n.kept_is;
      region = c.hand.new.region;
      cells = c.take_rows-cells.result.cells;
      handed = c.take_rows-cells.ensures.cells n.parts n.kept_is;
      step = record {
        step = record {
          batch = n.at;
          batches = ap (λ (b : Begun). set c.args.group.now.batches.items c.args.place b) (c.take_rows-cells.ensures.begun ∙ (λ i. record z { phase = n.phase_is i; batch = record z.batch { puts = None }; rows = None }));
          table = refl;
          points = refl;
          last = refl;
          horizon = refl;
        };
        rows = refl;
        indexes = refl;
      };
      writes = c.hand.ensures.writes;
    }

pub returns-in-Ok-clause-written : goal.returns-in-Ok-clause-written
returns-in-Ok-clause-written g c =
    let z = c.index_mut.result.now in
    let n = ready_puts c.args.group.now c.args.place c.requires.right c.requires.writing z c.index_mut.ensures.value in
    let h = c.take_rows-cells.ensures.cells n.parts n.kept_is in
    record {
      hands = record {
        batch = z;
        writing = n.phase_is;
        parts = n.parts;
        kept = n.kept_is;
        region = c.hand.new.region;
        cells = c.take_rows-cells.result.cells;
        handed = h;
        step = record {
          step = record {
            batch = n.at;
            batches = set_twice c.args.group.now.batches.items c.args.place c.take_rows-cells.new.begun c.index_mut-in-Ok.result.now (record z { batch = record z.batch { puts = None }; rows = None }) Verifying (within c.args.group.now.batches.items c.args.place z n.at) c.index_mut-in-Ok.ensures.value c.take_rows-cells.ensures.begun;
            table = refl;
            points = refl;
            last = refl;
            horizon = refl;
          };
          rows = refl;
          indexes = refl;
        };
        writes = c.hand.ensures.writes;
      };
      written = c.in-Ok.ensures.written;
      room = uses_same _ _ _ _ _ _ c.in-Ok.ensures.used h.count h.bytes;
    }

pub returns-in-Ok-clause-rows : goal.returns-in-Ok-clause-rows
returns-in-Ok-clause-rows g c =
    (let z = c.index_mut.result.now in
    let n = ready_puts c.args.group.now c.args.place c.requires.right c.requires.writing z c.index_mut.ensures.value in
    record { batch = z; is = n.at; rows_are = c.take_rows-cells.ensures.rows })

pub returns-in-Err-clause-late : goal.returns-in-Err-clause-late
returns-in-Err-clause-late g c =
    (let z = c.index_mut.result.now in
    let n = ready_puts c.args.group.now c.args.place c.requires.right c.requires.writing z c.index_mut.ensures.value in
    record { batch = z; is = n.at; rows_are = c.take_rows-cells.ensures.rows })

pub returns-in-Ok-clause-right : goal.returns-in-Ok-clause-right
returns-in-Ok-clause-right g c = right_puts g.D.Disk c.args.group.now _ c.args.disk.now c.hand.new.disk c.args.place c.requires.right (returns-in-Ok-clause-written g c)
