use Rattle.px_wal.specs.SnapshotOf.{snapshot_of}
use Rattle.px_naming.proofs.Named.{on_both}
use Rattle.px_forgetting.proofs.Named.{forgotten_done, forgotten_leaves, forgotten_whole}
use Rattle.px_forgetting.proofs.naming.name_forgotten.Goals as goal

pub returns-clause-done : goal.returns-clause-done
returns-clause-done g c = λ region wal batches files lists file list parts forgotten.
    on_both c.append.result
    (λ has named. forgotten_done g.D.Disk region c.args.manifest.now wal c.args.disk.now batches files lists file list (snapshot_of c.args.after) parts forgotten c.append.new.disk c.requires.right.files (c.append.ensures.touches region parts.named) c.append.new.self has named)
    (c.append.ensures.done region parts.named) c.append.ensures.named

pub returns-clause-kept_whole : goal.returns-clause-kept_whole
returns-clause-kept_whole g c = λ region wal batches files lists file list parts forgotten.
    forgotten_whole g.D.Disk region c.args.manifest.now wal c.args.disk.now batches files lists file list (snapshot_of c.args.after) parts forgotten

pub returns-clause-any_moment : goal.returns-clause-any_moment
returns-clause-any_moment g c = λ region wal batches files lists file list parts forgotten.
    forgotten_leaves g.D.Disk region c.args.manifest.now wal c.args.disk.now batches files lists file list (snapshot_of c.args.after) parts forgotten c.append.new.disk c.requires.right.files (c.append.ensures.touches region parts.named)
    (c.append.ensures.any_moment region parts.named)
