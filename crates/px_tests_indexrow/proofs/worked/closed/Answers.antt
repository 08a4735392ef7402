use Rattle.px_tests_indexrow.proofs.Ready.{ready}
use Rattle.px_tests_indexrow.proofs.worked.closed.Goals as goal

pub closes-requires-clause-table : goal.closes-requires-clause-table
closes-requires-clause-table c = (ready c.args.case.now c.requires).table

pub closes-requires-clause-old : goal.closes-requires-clause-old
closes-requires-clause-old c = (ready c.args.case.now c.requires).old

pub closes-requires-clause-new : goal.closes-requires-clause-new
closes-requires-clause-new c = (ready c.args.case.now c.requires).new
