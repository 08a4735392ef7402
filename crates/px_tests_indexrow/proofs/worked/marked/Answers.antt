use Rattle.px_tests_indexrow.proofs.Ready.{ready}
use Rattle.px_tests_indexrow.proofs.worked.marked.Goals as goal

pub marks-requires-clause-table : goal.marks-requires-clause-table
marks-requires-clause-table c = (ready c.args.case.now c.requires).table

pub marks-requires-clause-old : goal.marks-requires-clause-old
marks-requires-clause-old c = (ready c.args.case.now c.requires).old

pub marks-requires-clause-new : goal.marks-requires-clause-new
marks-requires-clause-new c = (ready c.args.case.now c.requires).new
