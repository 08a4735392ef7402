use Rattle.px_recovery.specs.Tables.{number_of_index}
use Rattle.px_opening.proofs.Rising.{above_more}
use Rattle.px_opening.proofs.definitions.+are_indexes_above.Goals as goal

pub returns-then-number-first : goal.returns-then-number-first
returns-then-number-first t c = above_more number_of_index c.args.number c.args.indexes.now c.first-item.result c.are_indexes_above.result c.in-len1-up.len_at_least c.first-item.is c.if-number-first.true c.are_indexes_above.ensures
