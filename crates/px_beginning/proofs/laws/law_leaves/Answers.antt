use Rattle.px_beginning.proofs.Leaves.{batch_after, right_after, shown_after, tallied_after}
use Rattle.px_beginning.proofs.Promised.{rooms_kept, rooms_taken}
use Rattle.px_beginning.proofs.laws.law_leaves.Goals as goal

pub returns : goal.returns
returns c = record {
  right = right_after;
  tallied = tallied_after;
  shown = λ g g' l b index es v hs. shown_after g g' l b es hs index v;
  batch = batch_after;
  keeps = rooms_kept;
  takes = rooms_taken;
}
