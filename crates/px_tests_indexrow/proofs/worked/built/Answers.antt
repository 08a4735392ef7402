use Rattle.px_tests_indexrow.proofs.Ready.{ready}
use Rattle.px_tests_indexrow.proofs.worked.built.Goals as goal

pub base-requires-clause-table : goal.base-requires-clause-table
base-requires-clause-table c = (ready c.args.case.now c.requires).table

pub base-requires-clause-state : goal.base-requires-clause-state
base-requires-clause-state c = (ready c.args.case.now c.requires).old
