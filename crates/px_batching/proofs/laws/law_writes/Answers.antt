use Rattle.px_batching.proofs.Right.{right_puts}
use Rattle.px_batching.proofs.Shown.{wrote_shown, wrote_steps}
use Rattle.px_batching.proofs.Tallied.{tallied_wrote}
use Rattle.px_batching.proofs.laws.law_writes.Goals as goal

pub returns : goal.returns
returns g c = record {
  right = λ p q old new m r w. right_puts g.D.Disk p q old new m r w;
  tallied = λ p q old new m r b es hs k w e a. tallied_wrote b es e p q hs r k m g.D.Disk old new w a;
  shown = λ p q old new m r b es hs k index v s w e may a. wrote_shown b index es p q v hs r k s m g.D.Disk old new w e may a;
  steps = λ p q old new m r b es hs k index v s w e may a. wrote_steps b index es p q v hs r k s m g.D.Disk old new w e may a;
}
