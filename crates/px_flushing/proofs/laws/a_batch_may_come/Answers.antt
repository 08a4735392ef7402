use Rattle.px_wal.proofs.Cuts.{written_last}
use Rattle.px_flushing.proofs.Going.{flushing_more}
use Rattle.px_flushing.proofs.laws.a_batch_may_come.Goals as goal

pub returns-clause-goes_on : goal.returns-clause-goes_on
returns-clause-goes_on g c = λ manifest old new flushing before after batches b lists touches has next log. flushing_more g.D.Disk manifest old flushing before batches lists has new after b touches next log

pub returns-clause-read : goal.returns-clause-read
returns-clause-read g c = λ flushed batches b lists over. written_last flushed batches lists b over
