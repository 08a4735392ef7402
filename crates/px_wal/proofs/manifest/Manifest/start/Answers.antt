use Rattle.std.proofs.Common.{◌<◌, ℕ, subst, sym}
use Rattle.px_gatelog.specs.GateLog.{steps_left}
use Rattle.px_gatelog.specs.Start.{Started}
use Rattle.px_gatelog.specs.declared.gate_log.GateLog.{GateLog}
use Rattle.px_wal.specs.Files.{file_of}
use Rattle.px_wal.specs.Snapshot.{manifest_form}
use Rattle.px_wal.specs.inner.SnapshotReader.{HoldsLast}
use Rattle.px_wal.proofs.Named.{started_by}
use Rattle.px_wal.proofs.manifest.Manifest.start.Goals as goal

pub returns-clause-started : goal.returns-clause-started
returns-clause-started g c = λ tells.
    let started = c.in_ok-log.ensures.start c.new-reader.ensures tells in
    let first : Started g.D.Disk manifest_form (λ records. HoldsLast c.start.new.reader records) (file_of c.args.region 2) c.local_file-second.result c.args.disk.now c.start.new.disk c.in_ok-log.log =
    subst (λ (f : ℕ). Started g.D.Disk manifest_form (λ records. HoldsLast c.start.new.reader records) f c.local_file-second.result c.args.disk.now c.start.new.disk c.in_ok-log.log) c.local_file-first.ensures started in
    let second : Started g.D.Disk manifest_form (λ records. HoldsLast c.start.new.reader records) (file_of c.args.region 2) (file_of c.args.region 3) c.args.disk.now c.start.new.disk c.in_ok-log.log =
    subst (λ (f : ℕ). Started g.D.Disk manifest_form (λ records. HoldsLast c.start.new.reader records) (file_of c.args.region 2) f c.args.disk.now c.start.new.disk c.in_ok-log.log) c.local_file-second.ensures first in
    started_by g.D.Disk c.args.region c.args.disk.now c.start.new.disk c.start.new.reader c.into_manifest.result
    (subst (λ (log : GateLog). Started g.D.Disk manifest_form (λ records. HoldsLast c.start.new.reader records) (file_of c.args.region 2) (file_of c.args.region 3) c.args.disk.now c.start.new.disk log) (sym c.into_manifest.ensures.log) second)
    (subst (λ (log : GateLog). 1 < steps_left log) (sym c.into_manifest.ensures.log) c.in_ok-log.ensures.unlaid) c.into_manifest.ensures.snapshot
