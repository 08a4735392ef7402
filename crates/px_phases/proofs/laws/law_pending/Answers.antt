use Rattle.px_phases.proofs.Left.{rows_same, states_same}
use Rattle.px_phases.proofs.laws.law_pending.Goals as goal

pub returns : goal.returns
returns c = record { state = states_same; rows = rows_same }
