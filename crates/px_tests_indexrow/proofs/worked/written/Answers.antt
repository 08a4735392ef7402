use Rattle.px_tests_indexrow.proofs.Ready.{ready}
use Rattle.px_tests_indexrow.proofs.worked.written.Goals as goal

pub cells_of-requires-clause-table : goal.cells_of-requires-clause-table
cells_of-requires-clause-table c = (ready c.args.case.now c.requires).table

pub cells_of-requires-clause-fits : goal.cells_of-requires-clause-fits
cells_of-requires-clause-fits c = (ready c.args.case.now c.requires).change
