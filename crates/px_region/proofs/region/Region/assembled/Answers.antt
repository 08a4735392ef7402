use Rattle.std.proofs.Common.{◌≡◌, ◌∙◌, ap, refl, sym, subst, Err, List}
use Rattle.px_outside.proofs.Moments.{rose_later}
use Rattle.px_files.specs.Calls.{opening_calls}
use Rattle.px_gatelog.specs.declared.fault.StartFault.TheVariants.{Damaged, ReadFault}
use Rattle.px_wal.specs.Manifest.{named_snapshot}
use Rattle.px_wal.specs.declared.snapshot.Snapshot.{Snapshot}
use Rattle.px_file.specs.declared.region_file.RegionFile.{RegionFile}
use Rattle.px_files.specs.Files.{HaveFiles}
use Rattle.px_region.proofs.Least.{upto_last}
use Rattle.px_region.proofs.Opening.{assembled_by, have}
use Rattle.px_region.proofs.region.Region.assembled.Goals as goal

pub returns-clause-opened : goal.returns-clause-opened
returns-clause-opened g c = λ batches tells named log stored.
    let went = c.in-Ok.ensures.opened _ batches tells named log in
    let mine = c.in-Ok.ensures.idle.0 in
    let files = subst (λ (l : List RegionFile). HaveFiles g.D.Disk c.args.number c.open.new.disk (named_snapshot c.args.manifest).files l went.0) (sym c.files.ensures)
    (have g.D.Disk c.args.number c.args.disk.now c.open.new.disk c.load.new.disk c.args.manifest _ _ batches went.0 tells went.1 mine) in
    assembled_by g.D.Disk c.args.number c.args.disk.now c.open.new.disk c.load.new.disk c.args.manifest _ _ batches went.0 tells went.1 mine
    _ _ _ _ _ _ _ c.open.ensures.seen c.load.ensures.quiet c.load.ensures.seen stored.store stored.cells stored.bytes (c.age.ensures _ (upto_last (named_snapshot c.args.manifest).flushed c.last-last.result batches log.right.rising (c.last-last.ensures ∙ log.last)) (c.of_store-stamps.ensures _ stored.store)) (c.in-Ok-load.ensures.loaded _ _ went.0 tells files) (ap (λ (s : Snapshot). s.horizon) c.snapshot.ensures) refl refl refl refl refl refl refl refl refl

pub returns-in-Err-load-clause-damaged : goal.returns-in-Err-load-clause-damaged
returns-in-Err-load-clause-damaged g c = λ batches file place tells named log e.
    let went = c.in-Ok.ensures.opened _ batches tells named log in
    let mine = c.in-Ok.ensures.idle.0 in
    let files = subst (λ (l : List RegionFile). HaveFiles g.D.Disk c.args.number c.open.new.disk (named_snapshot c.args.manifest).files l went.0) (sym c.files.ensures)
    (have g.D.Disk c.args.number c.args.disk.now c.open.new.disk c.load.new.disk c.args.manifest _ _ batches went.0 tells went.1 mine) in
    let fault : c.in-Err-load.fault ≡ Damaged file place = cc in
    absurd (c.in-Err-load.ensures.sound _ _ went.0 tells files file place (ap Err fault))

pub returns-in-Err-load-clause-read_failed : goal.returns-in-Err-load-clause-read_failed
returns-in-Err-load-clause-read_failed g c = λ e.
    let fault : c.in-Err-load.fault ≡ ReadFault = cc in
    rose_later g.D.Disk.calls g.D.Disk.faults g.D.Disk.first c.args.disk.now c.open.new.disk c.load.new.disk (opening_calls c.in-Ok.flushing.files.items) c.in-Ok.ensures.counts (c.in-Err-load.ensures.read_failed (ap Err fault))
