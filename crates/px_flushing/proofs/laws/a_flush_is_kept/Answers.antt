use Rattle.px_flushing.proofs.Going.{flushing_kept}
use Rattle.px_flushing.proofs.laws.a_flush_is_kept.Goals as goal

pub returns : goal.returns
returns g c = λ manifest wal flushing old new batches lists touches has. flushing_kept g.D.Disk manifest wal flushing old batches lists has new touches
