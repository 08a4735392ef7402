use Rattle.px_disabled.proofs.Less.{tallied_disabled}
use Rattle.px_disabled.proofs.LessShown.{shown_disabled}
use Rattle.px_disabled.proofs.law_disabled.Goals as goal

pub returns : goal.returns
returns c = record { tallied = tallied_disabled; shown = shown_disabled }
