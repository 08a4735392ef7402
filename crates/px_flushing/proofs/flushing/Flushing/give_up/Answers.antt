use Rattle.std.proofs.Common.{None, refl}
use Rattle.px_flushing.proofs.Going.{by_fields}
use Rattle.px_flushing.proofs.flushing.Flushing.give_up.Goals as goal

pub returns-clause-kept : goal.returns-clause-kept
returns-clause-kept g c = λ manifest wal disk batches lists has.
    let self = c.args.self.now in
    by_fields g.D.Disk manifest wal self.number self.files.items None disk batches lists _ has.parts tt refl refl refl
