use Rattle.std.proofs.Common.{sym, ◌∙◌}
use Rattle.px_expr.specs.Holds.{truth_of}
use Rattle.px_expr.proofs.Rows.{truth_and, truth_or}
use Rattle.px_expr.proofs.Truths.{each_is, is_each_of, is_some_of, some_is}
use Rattle.px_expr.proofs.laws.law_selected.Goals as goal

pub returns-clause-or : goal.returns-clause-or
returns-clause-or c row parts =
    ((λ is. some_is (truth_of row) parts (sym (truth_or row parts) ∙ is)), (λ some. truth_or row parts ∙ is_some_of (truth_of row) parts some))

pub returns-clause-and : goal.returns-clause-and
returns-clause-and c row parts =
    ((λ is. each_is (truth_of row) parts (sym (truth_and row parts) ∙ is)), (λ all. truth_and row parts ∙ is_each_of (truth_of row) parts all))
