use Rattle.px_recovery.proofs.Round.{stood_catalogue, stood_high, stood_last, stood_states}
use Rattle.px_recovery.proofs.law_tells.Goals as goal

pub returns : goal.returns
returns c = record { catalogue = stood_catalogue; states = stood_states; horizon = stood_high; last = stood_last }
