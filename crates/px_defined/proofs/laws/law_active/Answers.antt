use Rattle.px_defined.proofs.Ready.{active_comes}
use Rattle.px_defined.proofs.Right.{right_active}
use Rattle.px_defined.proofs.ShownActive.{active_steps, shown_active}
use Rattle.px_defined.proofs.TalliedActive.{tallied_active}
use Rattle.px_defined.proofs.laws.law_active.Goals as goal

pub returns : goal.returns
returns c = record { right = right_active; tallied = tallied_active; comes = active_comes; steps = active_steps; shown = shown_active }
