use Rattle.px_standing.proofs.Counted.{indexes_counted, runs_out, tables_counted}
use Rattle.px_standing.proofs.laws.law_counts.Goals as goal

pub returns-clause-tables : goal.returns-clause-tables
returns-clause-tables c = tables_counted

pub returns-clause-indexes : goal.returns-clause-indexes
returns-clause-indexes c = indexes_counted

pub returns-clause-numbers : goal.returns-clause-numbers
returns-clause-numbers c = runs_out
