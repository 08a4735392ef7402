use Rattle.px_defined.proofs.News.{new_index_right}
use Rattle.px_defined.proofs.Right.{right_more}
use Rattle.px_defined.proofs.ShownMore.{bears, shown_more}
use Rattle.px_defined.proofs.TalliedMore.{tallied_more}
use Rattle.px_defined.proofs.laws.law_index.Goals as goal

pub returns : goal.returns
returns c = record { new = new_index_right; right = right_more; tallied = tallied_more; shown = shown_more; bears = bears }
