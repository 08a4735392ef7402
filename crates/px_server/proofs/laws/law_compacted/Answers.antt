use Rattle.px_server.proofs.Orders.{compacted, risen_back}
use Rattle.px_server.proofs.laws.law_compacted.Goals as goal

pub returns-clause-compacted : goal.returns-clause-compacted
returns-clause-compacted c = compacted

pub returns-clause-back : goal.returns-clause-back
returns-clause-back c = risen_back
