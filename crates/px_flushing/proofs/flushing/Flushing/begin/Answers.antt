use Rattle.std.proofs.Common.{◌≡◌, ℕ, Err, None, Some, List, ap, refl, subst, sym, ◌∙◌}
use Rattle.std.proofs.lemmas.Bool.{both_ways}
use Rattle.std.specs.Prelude.{map}
use Rattle.px_outside.proofs.Moments.{stays_touches, touches_none}
use Rattle.px_wal.specs.Manifest.{named_snapshot}
use Rattle.px_wal.specs.SnapshotOf.{file_data}
use Rattle.px_wal.specs.Wal.{HasBatches}
use Rattle.px_wal.specs.declared.snapshot.FileEntry.{FileEntry}
use Rattle.px_wal.specs.declared.snapshot.Snapshot.{Snapshot}
use Rattle.px_flushing.specs.declared.fault.FlushFault.TheVariants.{Damaged, ReadFault, WriteFault}
use Rattle.px_flushing.specs.declared.job.Job.TheVariants as job
use Rattle.px_flushing.specs.declared.stage.Stage.TheVariants as stage
use Rattle.px_flushing.proofs.Going.{begun_by, by_fields, parts_quiet, unflushed}
use Rattle.px_flushing.proofs.Stages.{read_damaged, read_read, read_write}
use Rattle.px_flushing.proofs.flushing.Flushing.begin.Goals as goal

pub returns-then-is_flushed-clause-touches : goal.returns-then-is_flushed-clause-touches
returns-then-is_flushed-clause-touches g c = touches_none g.D.Disk.calls g.D.Disk.left g.D.Disk.seen g.met.D.Disk.up_to_now c.args.disk.now _

pub returns-in-None-clause-touches : goal.returns-in-None-clause-touches
returns-in-None-clause-touches g c = touches_none g.D.Disk.calls g.D.Disk.left g.D.Disk.seen g.met.D.Disk.up_to_now c.args.disk.now _

pub returns-in-Ok-clause-touches : goal.returns-in-Ok-clause-touches
returns-in-Ok-clause-touches g c = stays_touches g.D.Disk.calls g.D.Disk.left g.D.Disk.seen c.args.disk.now c.freeze.new.disk c.freeze.ensures.quiet c.freeze.ensures.seen

pub returns-in-Err-clause-touches : goal.returns-in-Err-clause-touches
returns-in-Err-clause-touches g c = stays_touches g.D.Disk.calls g.D.Disk.left g.D.Disk.seen c.args.disk.now c.freeze.new.disk c.freeze.ensures.quiet c.freeze.ensures.seen

pub returns-in-Ok-clause-done : goal.returns-in-Ok-clause-done
returns-in-Ok-clause-done g c = λ batches lists has.
    let manifest = c.args.manifest.now in
    let flushed : c.snapshot-named.result.now.flushed ≡ (named_snapshot manifest).flushed = ap (λ (s : Snapshot). s.flushed) c.snapshot-named.ensures in
    let entries : c.deref.result.now ≡ manifest.snapshot.files.items = c.deref.ensures.value ∙ ap (λ (s : Snapshot). s.files.items) c.snapshot-named.ensures in
    let later = unflushed (named_snapshot manifest).flushed c.args.wal.now.older_to (λ le. both_ways _ c.if-is_flushed.false (c.is_flushed.ensures.1 le)) in
    let d = g.D.Disk in
    let self = c.args.self.now in
    by_fields d manifest c.args.wal.now self.number self.files.items (Some (job.Flush (record { frozen = c.in-Ok.frozen; local = c.in-Some.local; stage = stage.Frozen }))) c.freeze.new.disk batches lists c.keep.new.self
    (parts_quiet d self.number manifest c.args.wal.now c.args.disk.now c.freeze.new.disk batches self.files.items lists has.parts c.freeze.ensures.quiet c.freeze.ensures.seen)
    (begun_by d self.number manifest c.args.wal.now c.args.disk.now c.freeze.new.disk batches self.files.items lists has.parts c.snapshot-named.result.now.flushed c.in-Some.local (map file_data c.deref.result.now) c.in-Ok.frozen flushed
    (ap (λ (l : List FileEntry). map file_data l) entries) c.in-Ok.ensures.frozen c.in-Ok.ensures.upto later c.in-Some.ensures)
    (sym c.keep.ensures.files.0) (ap (λ v. v.items) (sym c.keep.ensures.files.1)) (sym c.keep.ensures.flush)

pub returns-in-Err-clause-done : goal.returns-in-Err-clause-done
returns-in-Err-clause-done g c = λ batches lists has.
    let self = c.args.self.now in
    by_fields g.D.Disk c.args.manifest.now c.args.wal.now self.number self.files.items None c.freeze.new.disk batches lists _
    (parts_quiet g.D.Disk self.number c.args.manifest.now c.args.wal.now c.args.disk.now c.freeze.new.disk batches self.files.items lists has.parts c.freeze.ensures.quiet c.freeze.ensures.seen) tt refl refl (sym c.requires)

pub returns-in-Err-clause-sound : goal.returns-in-Err-clause-sound
returns-in-Err-clause-sound g c = λ batches lists has e.
    let flushed : c.snapshot-named.result.now.flushed ≡ (named_snapshot c.args.manifest.now).flushed = ap (λ (s : Snapshot). s.flushed) c.snapshot-named.ensures in
    let same : c.of_read.result ≡ Damaged = cc in
    let log = subst (λ (n : ℕ). HasBatches g.D.Disk c.args.self.now.number n c.args.wal.now c.args.disk.now batches) (sym flushed) has.parts.log in
    read_damaged c.in-Err.fault (sym c.of_read.ensures ∙ same) (λ file place is. c.in-Err.ensures.sound batches log file place (ap Err is))

pub returns-in-Err-clause-read_failed : goal.returns-in-Err-clause-read_failed
returns-in-Err-clause-read_failed g c = λ e.
    let same : c.of_read.result ≡ ReadFault = cc in
    c.in-Err.ensures.read_failed (ap Err (read_read c.in-Err.fault (sym c.of_read.ensures ∙ same)))

pub returns-in-Err-clause-write_failed : goal.returns-in-Err-clause-write_failed
returns-in-Err-clause-write_failed g c = λ e.
    let same : c.of_read.result ≡ WriteFault = cc in
    absurd (c.in-Err.ensures.write_failed (ap Err (read_write c.in-Err.fault (sym c.of_read.ensures ∙ same))))
