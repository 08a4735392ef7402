use Rattle.px_cells.proofs.Contents.{value_from_reads, reads_from_value, same_values, values_append}
use Rattle.px_cells.proofs.laws.places_tell_cells.Goals as goal

pub returns-clause-read : goal.returns-clause-read
returns-clause-read c = λ cells k q s d v. (reads_from_value cells k q s d v, value_from_reads cells k q s d v)

pub returns-clause-same : goal.returns-clause-same
returns-clause-same c = same_values

pub returns-clause-over : goal.returns-clause-over
returns-clause-over c = values_append
