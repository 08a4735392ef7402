use Rattle.px_flushing.proofs.Going.{flushing_stands}
use Rattle.px_flushing.proofs.laws.what_is_held_stands.Goals as goal

pub returns : goal.returns
returns g c = λ manifest wal flushing disk batches lists has. flushing_stands g.D.Disk manifest wal flushing disk batches lists has
