use Rattle.px_batching.proofs.Right.{right_marked}
use Rattle.px_batching.proofs.Shown.{marked_shown_on, marked_steps}
use Rattle.px_batching.proofs.Tallied.{tallied_marked}
use Rattle.px_batching.proofs.laws.law_marked.Goals as goal

pub returns : goal.returns
returns c = record {
  right = λ p q m r f. right_marked p q m r f;
  tallied = λ p q m r b es hs k f e a. tallied_marked b es e p q hs r k m f a;
  shown = λ p q m r b es hs k index v s f e may a. marked_shown_on b index es p q v hs r k s m f e may a;
  steps = λ p q m r b es hs k index v s f e may a. marked_steps b index es p q v hs r k s m f e may a;
}
