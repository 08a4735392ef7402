use Rattle.px_defined.proofs.Going.{none_open}
use Rattle.px_defined.proofs.Right.{right_less}
use Rattle.px_defined.proofs.ShownLess.{shown_less}
use Rattle.px_defined.proofs.TalliedLess.{tallied_less}
use Rattle.px_defined.proofs.laws.law_dropped.Goals as goal

pub returns : goal.returns
returns c = record { right = right_less; tallied = tallied_less; shown = shown_less; none = none_open }
