use Rattle.std.proofs.Common.{◌≡◌, ◌∙◌, ap, sym, subst, arith, List, take, ◌+◌}
use Rattle.px_cells.specs.CellData.{CellData}
use Rattle.px_phases.specs.Begun.{AreFrom}
use Rattle.px_phases.specs.Phases.{AreTransitions}
use Rattle.px_region.specs.Region.{read_of}
use Rattle.px_beginning.proofs.Lists.{from_more, transitions_more}
use Rattle.px_beginning.specs.Reads.{old_in}
use Rattle.px_region.proofs.Alike.{alike_then}
use Rattle.px_region.proofs.OnlyRead.{reads_then}
use Rattle.px_beginning.proofs.rows.transitions_of.Goals as goal

pub loop-place-preserved : goal.loop-place-preserved
loop-place-preserved g c =
    let t = c.args.table.now in
    let ch = c.index-changes-place.result in
    let x = c.in_ok-next.next in
    let i = c.loop-place.invariant in
    let e = c.in_ok-next.ensures in
    let here : x.old ≡ old_in t (read_of c.args.rows.now) c.args.batches.now ch.row = e.from ∙ ap (λ (cells : List CellData). old_in t cells c.args.batches.now ch.row) i.alike.store in
    record {
      are = subst (AreTransitions t (take (c.loop-place.place + 1) c.args.changes.now)) (sym c.push_reserved.ensures.items) (transitions_more t c.args.changes.now c.loop-place.place ch c.loop-place.transitions.items x c.loop-place-test.true c.index-changes-place.is i.are e.is);
      from = subst (AreFrom (old_in t (read_of c.args.rows.now) c.args.batches.now) (take (c.loop-place.place + 1) c.args.changes.now)) (sym c.push_reserved.ensures.items) (from_more t (old_in t (read_of c.args.rows.now) c.args.batches.now) c.args.changes.now c.loop-place.place ch c.loop-place.transitions.items x c.loop-place-test.true c.index-changes-place.is i.are i.from (sym here));
      count = (let n = i.count in let m = c.push_reserved.ensures.len in omega arith);
      room = (let n = i.room in let m = c.push_reserved.ensures.capacity in omega arith);
      alike = alike_then _ _ _ i.alike e.alike;
      promised = record { cells = e.promised.cells ∙ i.promised.cells; bytes = e.promised.bytes ∙ i.promised.bytes };
      only_read = reads_then g.D.Disk _ _ _ i.only_read e.only_read;
    }
