use Rattle.px_tests_baserows.proofs.Ready.{table_right}
use Rattle.px_tests_baserows.proofs.worked.keyed.Goals as goal

pub index_key-requires-clause-table : goal.index_key-requires-clause-table
index_key-requires-clause-table c = table_right c.args.table.now c.requires.table
