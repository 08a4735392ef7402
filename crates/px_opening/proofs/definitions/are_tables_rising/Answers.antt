use Rattle.px_standing.specs.Agrees.{number_of_table}
use Rattle.px_opening.proofs.Rising.{rising_more}
use Rattle.px_opening.proofs.definitions.are_tables_rising.Goals as goal

pub returns-in-len1-up : goal.returns-in-len1-up
returns-in-len1-up c = rising_more number_of_table c.args.tables.now c.first-item.result c.are_tables_above.result c.in-len1-up.len_at_least c.first-item.is c.are_tables_above.ensures
