use Rattle.std.proofs.Common.{refl, ◌∷◌, []}
use Rattle.px_wal.specs.Snapshot.{snapshot_record}
use Rattle.px_wal.specs.SnapshotOf.{snapshot_of}
use Rattle.px_wal.proofs.Named.{append_at, append_done}
use Rattle.px_wal.proofs.manifest.Manifest.append.Goals as goal

pub returns-in-Ok-clause-done : goal.returns-in-Ok-clause-done
returns-in-Ok-clause-done g c = λ region has.
    append_done g.D.Disk region c.args.self.now c.args.disk.now has (snapshot_of c.args.snapshot) c.requires.right c.requires.open _ c.fill_snapshot.ensures.filled _ c.append.new.disk refl (c.args.self.now.unlaid c.requires.still) c.append.ensures.same
    (c.append.ensures.laid (snapshot_record (snapshot_of c.args.snapshot) ∷ [])) c.append.ensures.steps c.in-Ok.ensures.done

pub returns-in-Ok-clause-any_moment : goal.returns-in-Ok-clause-any_moment
returns-in-Ok-clause-any_moment g c = λ region has.
    append_at g.D.Disk region c.args.self.now c.args.disk.now has (snapshot_of c.args.snapshot) c.requires.right c.requires.open _ c.fill_snapshot.ensures.filled c.append.new.disk c.append.ensures.any_moment

pub returns-in-Err-clause-any_moment : goal.returns-in-Err-clause-any_moment
returns-in-Err-clause-any_moment g c = λ region has.
    append_at g.D.Disk region c.args.self.now c.args.disk.now has (snapshot_of c.args.snapshot) c.requires.right c.requires.open _ c.fill_snapshot.ensures.filled c.append.new.disk c.append.ensures.any_moment
