use Rattle.std.proofs.Common.{◌≡◌, ◌≤◌, List, Some, Err, ap, length, sym, subst, refl}
use Rattle.std.specs.Prelude.{slice_get}
use Rattle.px_cells.specs.CellData.{CellData}
use Rattle.px_keptcells.specs.Kept.{laid}
use Rattle.px_group.specs.declared.group.IndexRegion.{IndexRegion}
use Rattle.px_values.specs.declared.row.Value.{Value}
use Rattle.px_batching.proofs.Places.{same_at}
use Rattle.px_reading.proofs.Looked.{looked_index, no_look}
use Rattle.px_repairs.proofs.Handing.{got_some}
use Rattle.px_basing.specs.Basing.{Written, base_cells_of}
use Rattle.px_basing.specs.Refused.{IsRefusedFor}
use Rattle.px_basing.proofs.Handing.{bases_err, bases_none, bases_ok, err_same, same_cells, some_cells}
use Rattle.px_basing.proofs.basing.base.Goals as goal

pub returns-in_default-clause-bases : goal.returns-in_default-clause-bases
returns-in_default-clause-bases g c = bases_none c.args.group.now c.args.disk.now

pub base_versions-requires-clause-rows : goal.base_versions-requires-clause-rows
base_versions-requires-clause-rows g c = c.requires.rows c.index-part.result.now (got_some c.args.group.now.indexes.items c.args.place c.index-part.result.now c.index-part.result.now c.requires.there c.index-part.ensures)

pub returns-in_default-base_versions-clause-bases : goal.returns-in_default-base_versions-clause-bases
returns-in_default-base_versions-clause-bases g c = bases_none c.args.group.now c.args.disk.now

pub write-requires : goal.write-requires
write-requires g c = record { some = subst (λ (k : List (List CellData)). 1 ≤ length (laid k)) (sym c.in-Ok-base_versions.ensures) (some_cells c.args.group.now c.index-part.result.now c.args.rows.now c.requires.some) }

pub returns-in-Ok-write-clause-bases : goal.returns-in-Ok-write-clause-bases
returns-in-Ok-write-clause-bases g c =
    let now = c.args.group.now in
    let x = c.index_mut.result.now in
    let at : slice_get now.indexes.items c.args.place ≡ Some x = got_some now.indexes.items c.args.place x x c.requires.there c.index_mut.ensures.value in
    let made : slice_get now.indexes.items c.args.place ≡ Some c.index-part.result.now = got_some now.indexes.items c.args.place c.index-part.result.now c.index-part.result.now c.requires.there c.index-part.ensures in
    bases_ok g.D.Disk now _ c.args.disk.now c.write.new.disk c.args.place c.args.rows.now x c.write.new.region
    record { index = at; indexes = refl; table = refl; rows = refl; batches = refl; points = refl; last = refl; horizon = refl }
    (λ looked. record { table = refl; rows = no_look now.rows; indexes = looked_index now c.args.place c.requires.there x x c.index_mut.ensures.value c.write.new.region looked.alike looked.promised; batches = refl; points = refl; last = refl; horizon = refl })
    c.write.result c.in-Ok-write.field-0 c.in-Ok-write.is
    (subst (λ (l : List CellData). Written g.D.Disk x.region c.write.new.region c.args.disk.now c.write.new.disk l c.write.result) (same_cells now c.args.place c.args.rows.now c.index-part.result.now x made at c.in-Ok-base_versions.kept c.in-Ok-base_versions.ensures) c.write.ensures.written)

pub returns-in-Err-clause-bases : goal.returns-in-Err-clause-bases
returns-in-Err-clause-bases g c =
    let now = c.args.group.now in
    let x = c.index_mut.result.now in
    let at : slice_get now.indexes.items c.args.place ≡ Some x = got_some now.indexes.items c.args.place x x c.requires.there c.index_mut.ensures.value in
    let made : slice_get now.indexes.items c.args.place ≡ Some c.index-part.result.now = got_some now.indexes.items c.args.place c.index-part.result.now c.index-part.result.now c.requires.there c.index-part.ensures in
    bases_err g.D.Disk now _ c.args.disk.now c.write.new.disk c.args.place c.args.rows.now x c.write.new.region
    record { index = at; indexes = refl; table = refl; rows = refl; batches = refl; points = refl; last = refl; horizon = refl }
    (λ looked. record { table = refl; rows = no_look now.rows; indexes = looked_index now c.args.place c.requires.there x x c.index_mut.ensures.value c.write.new.region looked.alike looked.promised; batches = refl; points = refl; last = refl; horizon = refl })
    (List (List Value)) c.write.result c.in-Err.fault c.in-Err.is
    (subst (λ (l : List CellData). Written g.D.Disk x.region c.write.new.region c.args.disk.now c.write.new.disk l c.write.result) (same_cells now c.args.place c.args.rows.now c.index-part.result.now x made at c.in-Ok-base_versions.kept c.in-Ok-base_versions.ensures) c.write.ensures.written)

pub returns-in-Err-clause-cause : goal.returns-in-Err-clause-cause
returns-in-Err-clause-cause g c fault y e at' =
    let now = c.args.group.now in
    let x = c.index_mut.result.now in
    let at : slice_get now.indexes.items c.args.place ≡ Some x = got_some now.indexes.items c.args.place x x c.requires.there c.index_mut.ensures.value in
    let made : slice_get now.indexes.items c.args.place ≡ Some c.index-part.result.now = got_some now.indexes.items c.args.place c.index-part.result.now c.index-part.result.now c.requires.there c.index-part.ensures in
    subst (λ (z : IndexRegion). IsRefusedFor z.region (base_cells_of now z c.args.rows.now) fault) (same_at now.indexes.items c.args.place x y at at')
    (subst (λ (l : List CellData). IsRefusedFor x.region l fault) (same_cells now c.args.place c.args.rows.now c.index-part.result.now x made at c.in-Ok-base_versions.kept c.in-Ok-base_versions.ensures) (c.in-Err.ensures.cause fault (ap Err (err_same c.in-Err.fault fault e))))
