use Rattle.px_standing.specs.Agrees.{number_of_table}
use Rattle.px_opening.proofs.Rising.{above_more}
use Rattle.px_opening.proofs.definitions.+are_tables_above.Goals as goal

pub returns-then-number-first : goal.returns-then-number-first
returns-then-number-first t c = above_more number_of_table c.args.number c.args.tables.now c.first-item.result c.are_tables_above.result c.in-len1-up.len_at_least c.first-item.is c.if-number-first.true c.are_tables_above.ensures
