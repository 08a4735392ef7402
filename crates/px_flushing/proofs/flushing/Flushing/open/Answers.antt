use Rattle.std.proofs.Common.{◌≡◌, Err, List, ap, subst, ◌∙◌}
use Rattle.std.specs.Prelude.{map}
use Rattle.px_gatelog.specs.declared.fault.StartFault.TheVariants.{Damaged}
use Rattle.px_wal.specs.Snapshot.{FileData}
use Rattle.px_wal.specs.SnapshotOf.{file_data}
use Rattle.px_wal.specs.declared.snapshot.FileEntry.{FileEntry}
use Rattle.px_wal.specs.declared.snapshot.Snapshot.{Snapshot}
use Rattle.px_files.specs.Files.{IsFirstBad}
use Rattle.px_flushing.proofs.Going.{opened_by}
use Rattle.px_flushing.proofs.flushing.Flushing.open.Goals as goal

pub returns-in-Ok-clause-opened : goal.returns-in-Ok-clause-opened
returns-in-Ok-clause-opened g c = λ wal batches tells snapshot log.
    let entries : c.deref.result.now ≡ c.args.manifest.now.snapshot.files.items = c.deref.ensures.value ∙ ap (λ (s : Snapshot). s.files.items) c.snapshot.ensures in
    let opened = c.in-Ok.ensures.opened tells in (
      opened.0,
      record {
        parts =
            opened_by g.D.Disk c.args.number c.args.manifest.now wal c.args.disk.now c.open_files.new.disk batches c.in-Ok.files.items opened.0 (map file_data c.deref.result.now) (ap (λ (l : List FileEntry). map file_data l) entries) tells snapshot log
            c.open_files.ensures.quiet c.open_files.ensures.seen opened.1;
        flush = tt;
      },
    )

pub returns-in-Err-clause-damaged : goal.returns-in-Err-clause-damaged
returns-in-Err-clause-damaged g c = λ file place tells e.
    let entries : c.deref.result.now ≡ c.args.manifest.now.snapshot.files.items = c.deref.ensures.value ∙ ap (λ (s : Snapshot). s.files.items) c.snapshot.ensures in
    let same : c.in-Err.fault ≡ Damaged file place = cc in
    subst (λ (l : List FileData). IsFirstBad c.args.number (g.D.Disk.seen c.args.disk.now) l file place) (ap (λ (l : List FileEntry). map file_data l) entries) (c.in-Err.ensures.damaged file place tells (ap Err same))
