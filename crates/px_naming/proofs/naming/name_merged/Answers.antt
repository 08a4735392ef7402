use Rattle.px_wal.specs.Manifest.{named_snapshot}
use Rattle.px_wal.specs.SnapshotOf.{snapshot_of}
use Rattle.px_naming.proofs.Named.{merged_done, merged_leaves, merged_same, on_both}
use Rattle.px_naming.proofs.naming.name_merged.Goals as goal

pub returns-clause-done : goal.returns-clause-done
returns-clause-done g c = λ region wal batches files lists count file list parts compacted.
    on_both c.append.result
    (λ has named. merged_done g.D.Disk region c.args.manifest.now wal c.args.disk.now c.append.new.disk batches files lists count file list (snapshot_of c.args.after) parts compacted c.requires.right.files (c.append.ensures.touches region parts.named) c.append.new.self has named)
    (c.append.ensures.done region parts.named) c.append.ensures.named

pub returns-clause-same : goal.returns-clause-same
returns-clause-same g c = λ region batches lists count file list compacted. merged_same g.D.Disk region c.args.disk.now (named_snapshot c.args.manifest.now) (snapshot_of c.args.after) batches lists count file list compacted

pub returns-clause-any_moment : goal.returns-clause-any_moment
returns-clause-any_moment g c = λ region wal batches files lists count file list parts compacted.
    merged_leaves g.D.Disk region c.args.manifest.now wal c.args.disk.now c.append.new.disk batches files lists count file list (snapshot_of c.args.after) parts compacted c.requires.right.files (c.append.ensures.touches region parts.named)
    (c.append.ensures.any_moment region parts.named)
