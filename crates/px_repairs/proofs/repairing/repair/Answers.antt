use Rattle.std.proofs.Common.{refl, subst}
use Rattle.px_keptcells.specs.Kept.{laid}
use Rattle.px_group.specs.declared.group.IndexRegion.{IndexRegion}
use Rattle.px_batching.proofs.Places.{same_at}
use Rattle.px_reading.proofs.Looked.{looked_index, no_look}
use Rattle.px_repairs.specs.Refused.{RefusesCells}
use Rattle.px_repairs.proofs.Handing.{got_some, repaired_by}
use Rattle.px_repairs.proofs.repairing.repair.Goals as goal

pub returns-clause-repaired : goal.returns-clause-repaired
returns-clause-repaired g c =
    repaired_by g.D.Disk c.args.group.now _ c.args.disk.now c.write.new.disk c.args.place (laid c.args.kept) c.index_mut.result.now c.write.new.region
    record {
      index = got_some c.args.group.now.indexes.items c.args.place _ c.index_mut.result.now c.requires.there c.index_mut.ensures.value;
      indexes = refl;
      table = refl;
      rows = refl;
      batches = refl;
      points = refl;
      last = refl;
      horizon = refl;
    }
    (λ looked. record {
      table = refl;
      rows = no_look c.args.group.now.rows;
      indexes = looked_index c.args.group.now c.args.place c.requires.there _ c.index_mut.result.now c.index_mut.ensures.value c.write.new.region looked.alike looked.promised;
      batches = refl;
      points = refl;
      last = refl;
      horizon = refl;
    })
    c.write.result c.write.ensures.written

pub returns-clause-cause : goal.returns-clause-cause
returns-clause-cause g c fault y e at =
    let items = c.args.group.now.indexes.items in
    let x = c.index_mut.result.now in
    subst (λ (z : IndexRegion). RefusesCells z.region (laid c.args.kept) fault) (same_at items c.args.place x y (got_some items c.args.place _ x c.requires.there c.index_mut.ensures.value) at) (c.write.ensures.cause fault e)
