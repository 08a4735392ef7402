use Rattle.px_batching.proofs.Gone.{right_gone}
use Rattle.px_batching.proofs.Shown.{closed_at, ended_shown, ended_steps}
use Rattle.px_batching.proofs.Tallied.{tallied_ended}
use Rattle.px_batching.proofs.laws.law_ends.Goals as goal

pub returns : goal.returns
returns c = record {
  right = λ p q m x l r. right_gone p q m x l r;
  tallied = λ p q m b es hs k x l e a. tallied_ended b es e p q hs k m x l a;
  shown = λ p q m r b es hs k index v s x l n e may a. ended_shown b index es p q v hs r k s m x l n e may a;
  steps = λ p q m r b es hs k index v s x l n e may a. ended_steps b index es p q v hs r k s m x l n e may a;
  closed = λ p m r b es hs k index v s a i l q h n. closed_at b index es p p v hs r k s m a i l q h n;
}
