use Rattle.std.proofs.Common.{Some, ap, sym}
use Rattle.px_flushing.specs.declared.job.Job.TheVariants as job
use Rattle.px_flushing.proofs.Going.{by_fields, wrote_begun, wrote_parts, wrote_touches}
use Rattle.px_wal.specs.Manifest.{named_snapshot}
use Rattle.px_flushing.proofs.flushing.Flushing.write.Goals as goal

pub returns-in-None-clause-done : goal.returns-in-None-clause-done
returns-in-None-clause-done g c = λ manifest wal batches lists parts begun.
    let d = g.D.Disk in
    let self = c.args.self.now in
    let touches = wrote_touches d self.number (named_snapshot manifest) c.args.disk.now c.advance-stage.new.disk batches c.args.frozen c.args.local _ _ c.args.stage _ begun c.local_file-file.ensures c.cells.ensures.cells c.advance-stage.ensures.touches c.advance-stage.ensures.stands in
    by_fields d manifest wal self.number self.files.items (Some (job.Flush (record { frozen = c.args.frozen; local = c.args.local; stage = c.advance-stage.result.0 }))) c.advance-stage.new.disk batches lists c.keep.new.self
    (wrote_parts d self.number manifest wal c.args.disk.now c.advance-stage.new.disk batches self.files.items lists parts c.args.local begun.free touches)
    (wrote_begun d self.number (named_snapshot manifest) c.args.disk.now c.advance-stage.new.disk batches c.args.frozen c.args.local _ _ c.args.stage _ begun c.local_file-file.ensures c.cells.ensures.cells c.advance-stage.ensures.touches c.advance-stage.ensures.stands)
    (sym c.keep.ensures.files.0) (ap (λ v. v.items) (sym c.keep.ensures.files.1)) (sym c.keep.ensures.flush)

pub returns-in-None-clause-touches : goal.returns-in-None-clause-touches
returns-in-None-clause-touches g c = λ manifest batches begun.
    wrote_touches g.D.Disk c.args.self.now.number (named_snapshot manifest) c.args.disk.now c.advance-stage.new.disk batches c.args.frozen c.args.local _ _ c.args.stage _ begun c.local_file-file.ensures c.cells.ensures.cells c.advance-stage.ensures.touches c.advance-stage.ensures.stands

pub returns-in-Some-clause-done : goal.returns-in-Some-clause-done
returns-in-Some-clause-done g c = λ manifest wal batches lists parts begun.
    let d = g.D.Disk in
    let self = c.args.self.now in
    let touches = wrote_touches d self.number (named_snapshot manifest) c.args.disk.now c.advance-stage.new.disk batches c.args.frozen c.args.local _ _ c.args.stage _ begun c.local_file-file.ensures c.cells.ensures.cells c.advance-stage.ensures.touches c.advance-stage.ensures.stands in
    by_fields d manifest wal self.number self.files.items (Some (job.Flush (record { frozen = c.args.frozen; local = c.args.local; stage = c.advance-stage.result.0 }))) c.advance-stage.new.disk batches lists c.keep.new.self
    (wrote_parts d self.number manifest wal c.args.disk.now c.advance-stage.new.disk batches self.files.items lists parts c.args.local begun.free touches)
    (wrote_begun d self.number (named_snapshot manifest) c.args.disk.now c.advance-stage.new.disk batches c.args.frozen c.args.local _ _ c.args.stage _ begun c.local_file-file.ensures c.cells.ensures.cells c.advance-stage.ensures.touches c.advance-stage.ensures.stands)
    (sym c.keep.ensures.files.0) (ap (λ v. v.items) (sym c.keep.ensures.files.1)) (sym c.keep.ensures.flush)

pub returns-in-Some-clause-touches : goal.returns-in-Some-clause-touches
returns-in-Some-clause-touches g c = λ manifest batches begun.
    wrote_touches g.D.Disk c.args.self.now.number (named_snapshot manifest) c.args.disk.now c.advance-stage.new.disk batches c.args.frozen c.args.local _ _ c.args.stage _ begun c.local_file-file.ensures c.cells.ensures.cells c.advance-stage.ensures.touches c.advance-stage.ensures.stands
