use Rattle.std.proofs.Common.{refl}
use Rattle.px_flushing.proofs.Going.{by_fields}
use Rattle.px_flushing.proofs.flushing.Flushing.take_kept.Goals as goal

pub returns-clause-held : goal.returns-clause-held
returns-clause-held g c = λ manifest wal disk batches lists has.
    let self = c.args.self.now in
    by_fields g.D.Disk manifest wal self.number self.files.items self.flush disk batches lists _ has.parts has.flush refl refl refl
