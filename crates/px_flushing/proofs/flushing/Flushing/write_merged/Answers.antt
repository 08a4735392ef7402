use Rattle.std.proofs.Common.{Some, ap, sym}
use Rattle.px_wal.specs.Manifest.{named_snapshot}
use Rattle.px_flushing.specs.declared.job.Job.TheVariants as job
use Rattle.px_flushing.proofs.Compacting.{merging_touches, wrote_merging}
use Rattle.px_flushing.proofs.Going.{by_fields, wrote_parts}
use Rattle.px_flushing.proofs.flushing.Flushing.write_merged.Goals as goal

pub returns-in-None-clause-done : goal.returns-in-None-clause-done
returns-in-None-clause-done g c = λ manifest wal batches lists parts merging.
    let d = g.D.Disk in
    let self = c.args.self.now in
    let m = c.args.merge in
    let touches = merging_touches d self.number (named_snapshot manifest) c.args.disk.now c.advance-stage.new.disk lists m.count m.horizon m.frozen m.local _ _ m.stage _ merging c.local_file-file.ensures c.cells.ensures.cells c.advance-stage.ensures.touches c.advance-stage.ensures.stands in
    by_fields d manifest wal self.number self.files.items (Some (job.Merge (record { count = m.count; horizon = m.horizon; frozen = m.frozen; local = m.local; stage = c.advance-stage.result.0 }))) c.advance-stage.new.disk batches lists c.keep.new.self
    (wrote_parts d self.number manifest wal c.args.disk.now c.advance-stage.new.disk batches self.files.items lists parts m.local merging.free touches)
    (wrote_merging d self.number (named_snapshot manifest) c.args.disk.now c.advance-stage.new.disk lists m.count m.horizon m.frozen m.local _ _ m.stage _ merging c.local_file-file.ensures c.cells.ensures.cells c.advance-stage.ensures.touches c.advance-stage.ensures.stands)
    (sym c.keep.ensures.files.0) (ap (λ v. v.items) (sym c.keep.ensures.files.1)) (sym c.keep.ensures.flush)

pub returns-in-None-clause-touches : goal.returns-in-None-clause-touches
returns-in-None-clause-touches g c = λ manifest lists merging.
    let m = c.args.merge in
    merging_touches g.D.Disk c.args.self.now.number (named_snapshot manifest) c.args.disk.now c.advance-stage.new.disk lists m.count m.horizon m.frozen m.local _ _ m.stage _ merging c.local_file-file.ensures c.cells.ensures.cells c.advance-stage.ensures.touches c.advance-stage.ensures.stands

pub returns-in-Some-clause-done : goal.returns-in-Some-clause-done
returns-in-Some-clause-done g c = λ manifest wal batches lists parts merging.
    let d = g.D.Disk in
    let self = c.args.self.now in
    let m = c.args.merge in
    let touches = merging_touches d self.number (named_snapshot manifest) c.args.disk.now c.advance-stage.new.disk lists m.count m.horizon m.frozen m.local _ _ m.stage _ merging c.local_file-file.ensures c.cells.ensures.cells c.advance-stage.ensures.touches c.advance-stage.ensures.stands in
    by_fields d manifest wal self.number self.files.items (Some (job.Merge (record { count = m.count; horizon = m.horizon; frozen = m.frozen; local = m.local; stage = c.advance-stage.result.0 }))) c.advance-stage.new.disk batches lists c.keep.new.self
    (wrote_parts d self.number manifest wal c.args.disk.now c.advance-stage.new.disk batches self.files.items lists parts m.local merging.free touches)
    (wrote_merging d self.number (named_snapshot manifest) c.args.disk.now c.advance-stage.new.disk lists m.count m.horizon m.frozen m.local _ _ m.stage _ merging c.local_file-file.ensures c.cells.ensures.cells c.advance-stage.ensures.touches c.advance-stage.ensures.stands)
    (sym c.keep.ensures.files.0) (ap (λ v. v.items) (sym c.keep.ensures.files.1)) (sym c.keep.ensures.flush)

pub returns-in-Some-clause-touches : goal.returns-in-Some-clause-touches
returns-in-Some-clause-touches g c = λ manifest lists merging.
    let m = c.args.merge in
    merging_touches g.D.Disk c.args.self.now.number (named_snapshot manifest) c.args.disk.now c.advance-stage.new.disk lists m.count m.horizon m.frozen m.local _ _ m.stage _ merging c.local_file-file.ensures c.cells.ensures.cells c.advance-stage.ensures.touches c.advance-stage.ensures.stands
