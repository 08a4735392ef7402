use Rattle.px_server.proofs.Decided.{decided}
use Rattle.px_server.proofs.Opened.{none_open}
use Rattle.px_server.proofs.laws.law_points.Goals as goal

pub returns-clause-decided : goal.returns-clause-decided
returns-clause-decided c = decided

pub returns-clause-none : goal.returns-clause-none
returns-clause-none c = none_open
