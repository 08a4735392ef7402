use Rattle.px_batching.proofs.May.{marks_at}
use Rattle.px_batching.proofs.Right.{right_marks}
use Rattle.px_batching.proofs.Shown.{marks_shown, marks_steps}
use Rattle.px_batching.proofs.Tallied.{tallied_marks}
use Rattle.px_batching.proofs.laws.law_marks.Goals as goal

pub returns : goal.returns
returns g c = record {
  right = λ p q old new m r w. right_marks g.D.Disk p q old new m r w;
  tallied = λ p q old new m b es hs k w. tallied_marks b es p q hs k m g.D.Disk old new w;
  place = λ p q old new m b es hs k w. marks_at b es p hs k m g.D.Disk q old new w;
  shown = λ p q old new m r b es hs k index v s w. marks_shown b index es p q v hs r k s m g.D.Disk old new w;
  steps = λ p q old new m r b es hs k index v s w. marks_steps b index es p q v hs r k s m g.D.Disk old new w;
}
