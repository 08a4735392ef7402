use Rattle.std.proofs.Common.{List, None, refl, subst, sym}
use Rattle.px_cells.specs.CellData.{CellData}
use Rattle.px_flushing.specs.Flushing.{HasKept}
use Rattle.px_flushing.proofs.Compacting.{has_written}
use Rattle.px_flushing.proofs.Going.{by_fields}
use Rattle.px_flushing.proofs.flushing.Flushing.keep_gathered.Goals as goal

pub returns-in-Ok-clause-done : goal.returns-in-Ok-clause-done
returns-in-Ok-clause-done g c = λ wal disk batches lists parts is.
    c.write_gathered.ensures.done wal disk batches lists parts (subst (λ (l : List CellData). HasKept c.args.horizon l c.in-Ok.kept) is c.in-Ok.ensures.kept)

pub returns-in-Ok-clause-sound : goal.returns-in-Ok-clause-sound
returns-in-Ok-clause-sound g c = λ written. c.write_gathered.ensures.sound (has_written c.args.horizon c.args.cells c.in-Ok.kept c.in-Ok.ensures.kept written)

pub returns-in-Err-Memory-clause-done : goal.returns-in-Err-Memory-clause-done
returns-in-Err-Memory-clause-done g c = λ wal disk batches lists parts is.
    let self = c.args.self.now in
    by_fields g.D.Disk c.args.manifest.now wal self.number self.files.items None disk batches lists _ parts tt refl refl (sym c.requires)

pub returns-in-Err-clause-done : goal.returns-in-Err-clause-done
returns-in-Err-clause-done g c = λ wal disk batches lists parts is.
    let self = c.args.self.now in
    by_fields g.D.Disk c.args.manifest.now wal self.number self.files.items None disk batches lists _ parts tt refl refl (sym c.requires)
