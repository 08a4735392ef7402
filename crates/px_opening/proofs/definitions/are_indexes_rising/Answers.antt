use Rattle.px_recovery.specs.Tables.{number_of_index}
use Rattle.px_opening.proofs.Rising.{rising_more}
use Rattle.px_opening.proofs.definitions.are_indexes_rising.Goals as goal

pub returns-in-len1-up : goal.returns-in-len1-up
returns-in-len1-up c = rising_more number_of_index c.args.indexes.now c.first-item.result c.are_indexes_above.result c.in-len1-up.len_at_least c.first-item.is c.are_indexes_above.ensures
