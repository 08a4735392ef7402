use Rattle.px_looks.proofs.Spelling.{shows_once, shows_some}
use Rattle.px_looks.proofs.rows.RowReaderReader.law.Goals as goal

pub returns-clause-once : goal.returns-clause-once
returns-clause-once c = shows_once c.args.self.now.table.now c.args.self.now.point

pub returns-clause-some : goal.returns-clause-some
returns-clause-some c = shows_some c.args.self.now.table.now c.args.self.now.point
