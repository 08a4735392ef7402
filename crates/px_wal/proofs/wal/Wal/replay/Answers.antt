use Rattle.std.proofs.Common.{[], refl, subst, sym, ◌<◌, ◌≡◌, ℕ, List, Ok}
use Rattle.px_gatelog.specs.Format.{SegmentRead, older_of, records_of, segments_of}
use Rattle.px_gatelog.specs.GateLog.{steps_left}
use Rattle.px_gatelog.specs.Start.{Started}
use Rattle.px_gatelog.specs.declared.gate_log.GateLog.{GateLog}
use Rattle.px_wal.specs.Files.{file_of}
use Rattle.px_wal.specs.Form.{wal_form}
use Rattle.px_wal.specs.inner.Reader.{HoldsOlder, HoldsRecords}
use Rattle.px_wal.proofs.Appended.{replayed_by}
use Rattle.px_wal.proofs.wal.Wal.replay.Goals as goal

pub returns-clause-replayed : goal.returns-clause-replayed
returns-clause-replayed g c = λ tells.
    let started = c.in_ok-log.ensures.start ([], refl, c.new-reader.ensures.empty) tells in
    let form = wal_form c.new-reader.result.flushed in
    let first : Started g.D.Disk form (λ records. HoldsRecords c.start.new.reader records) (file_of c.args.region 0) c.local_file-second.result c.args.disk.now c.start.new.disk c.in_ok-log.log =
    subst (λ (f : ℕ). Started g.D.Disk form (λ records. HoldsRecords c.start.new.reader records) f c.local_file-second.result c.args.disk.now c.start.new.disk c.in_ok-log.log) c.local_file-first.ensures started in
    let second : Started g.D.Disk form (λ records. HoldsRecords c.start.new.reader records) (file_of c.args.region 0) (file_of c.args.region 1) c.args.disk.now c.start.new.disk c.in_ok-log.log =
    subst (λ (f : ℕ). Started g.D.Disk form (λ records. HoldsRecords c.start.new.reader records) (file_of c.args.region 0) f c.args.disk.now c.start.new.disk c.in_ok-log.log) c.local_file-second.ensures first in
    let older_first : (segments : List SegmentRead) → segments_of form (g.D.Disk.seen c.args.disk.now (file_of c.args.region 0)) (g.D.Disk.seen c.args.disk.now c.local_file-second.result) ≡ Ok segments → HoldsOlder c.start.new.reader (records_of (older_of segments)) =
    subst (λ (f : ℕ). (segments : List SegmentRead) → segments_of form (g.D.Disk.seen c.args.disk.now f) (g.D.Disk.seen c.args.disk.now c.local_file-second.result) ≡ Ok segments → HoldsOlder c.start.new.reader (records_of (older_of segments)))
    c.local_file-first.ensures (c.in_ok-log.ensures.older ([], refl, c.new-reader.ensures.empty) tells) in
    let older : (segments : List SegmentRead) → segments_of form (g.D.Disk.seen c.args.disk.now (file_of c.args.region 0)) (g.D.Disk.seen c.args.disk.now (file_of c.args.region 1)) ≡ Ok segments → HoldsOlder c.start.new.reader (records_of (older_of segments)) =
    subst (λ (f : ℕ). (segments : List SegmentRead) → segments_of form (g.D.Disk.seen c.args.disk.now (file_of c.args.region 0)) (g.D.Disk.seen c.args.disk.now f) ≡ Ok segments → HoldsOlder c.start.new.reader (records_of (older_of segments)))
    c.local_file-second.ensures older_first in
    replayed_by g.D.Disk c.args.region c.args.flushed c.args.disk.now c.start.new.disk c.new-reader.result c.start.new.reader c.into_replayed.result c.new-reader.ensures.flushed c.in_ok-log.ensures.same
    (subst (λ (log : GateLog). Started g.D.Disk form (λ records. HoldsRecords c.start.new.reader records) (file_of c.args.region 0) (file_of c.args.region 1) c.args.disk.now c.start.new.disk log) (sym c.into_replayed.ensures.log) second) older
    (subst (λ (log : GateLog). 1 < steps_left log) (sym c.into_replayed.ensures.log) c.in_ok-log.ensures.unlaid)
    c.into_replayed.ensures.last c.into_replayed.ensures.older c.into_replayed.ensures.stored.0 c.into_replayed.ensures.stored.1 c.into_replayed.ensures.stored.2
