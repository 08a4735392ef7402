use Rattle.px_sorted.specs.Sorting.{is_ordered_before}
use Rattle.px_sorted.proofs.Ascending.{rank}
use Rattle.px_sorted.proofs.Stable.{only_sorted, sorted_in_order, sorted_same, sorted_stable}
use Rattle.px_sorted.proofs.laws.law_sorted.Goals as goal

pub returns-clause-same : goal.returns-clause-same
returns-clause-same c = λ order rows. sorted_same (is_ordered_before order) (rank order) rows

pub returns-clause-sorted : goal.returns-clause-sorted
returns-clause-sorted c = λ order rows. sorted_in_order (is_ordered_before order) (rank order) rows

pub returns-clause-stable : goal.returns-clause-stable
returns-clause-stable c = λ order rows. sorted_stable (is_ordered_before order) (rank order) rows

pub returns-clause-one : goal.returns-clause-one
returns-clause-one c = λ order rows other sorted stable. only_sorted (is_ordered_before order) (rank order) rows other sorted stable
