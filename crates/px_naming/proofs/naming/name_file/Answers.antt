use Rattle.px_wal.specs.SnapshotOf.{snapshot_of}
use Rattle.px_naming.proofs.Named.{named_done, named_leaves, on_both, reads_same}
use Rattle.px_naming.proofs.naming.name_file.Goals as goal

pub returns-clause-done : goal.returns-clause-done
returns-clause-done g c = λ region wal batches files lists file list parts flushed.
    on_both c.append.result
    (λ has named. named_done g.D.Disk region c.args.manifest.now wal c.args.disk.now c.append.new.disk batches files lists file list (snapshot_of c.args.after) parts flushed c.requires.right.files (c.append.ensures.touches region parts.named) c.append.new.self has named)
    (c.append.ensures.done region parts.named) c.append.ensures.named

pub returns-clause-same : goal.returns-clause-same
returns-clause-same g c = λ region wal batches files lists file list parts flushed.
    reads_same g.D.Disk region c.args.manifest.now wal c.args.disk.now c.append.new.disk batches files lists file list (snapshot_of c.args.after) parts flushed

pub returns-clause-any_moment : goal.returns-clause-any_moment
returns-clause-any_moment g c = λ region wal batches files lists file list parts flushed.
    named_leaves g.D.Disk region c.args.manifest.now wal c.args.disk.now c.append.new.disk batches files lists file list (snapshot_of c.args.after) parts flushed c.requires.right.files (c.append.ensures.touches region parts.named)
    (c.append.ensures.any_moment region parts.named)
