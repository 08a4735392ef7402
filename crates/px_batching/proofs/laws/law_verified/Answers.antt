use Rattle.px_batching.proofs.Right.{right_verified}
use Rattle.px_batching.proofs.Shown.{verified_shown_on, verified_steps}
use Rattle.px_batching.proofs.Tallied.{tallied_verified}
use Rattle.px_batching.proofs.laws.law_verified.Goals as goal

pub returns : goal.returns
returns c = record {
  right = λ p q m r f. right_verified p q m r f;
  tallied = λ p q m r b es hs k f e a. tallied_verified b es e p q hs r k m f a;
  shown = λ p q m r b es hs k index v s f e may a. verified_shown_on b index es p q v hs r k s m f e may a;
  steps = λ p q m r b es hs k index v s e may a. verified_steps b index es p q v hs r k s m e may a;
}
