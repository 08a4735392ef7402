use Rattle.px_standing.proofs.Defined.{index_gone, index_made, index_ready, table_gone, table_made}
use Rattle.px_standing.proofs.Looked.{free, taken}
use Rattle.px_standing.proofs.laws.law_agrees.Goals as goal

pub returns-clause-free : goal.returns-clause-free
returns-clause-free c = free

pub returns-clause-taken : goal.returns-clause-taken
returns-clause-taken c = taken

pub returns-clause-table_made : goal.returns-clause-table_made
returns-clause-table_made c = table_made

pub returns-clause-index_made : goal.returns-clause-index_made
returns-clause-index_made c = index_made

pub returns-clause-index_ready : goal.returns-clause-index_ready
returns-clause-index_ready c = index_ready

pub returns-clause-table_gone : goal.returns-clause-table_gone
returns-clause-table_gone c = table_gone

pub returns-clause-index_gone : goal.returns-clause-index_gone
returns-clause-index_gone c = index_gone
