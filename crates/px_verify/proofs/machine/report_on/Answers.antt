use Rattle.std.proofs.Common.{◌∙◌}
use Rattle.px_verify.proofs.Ordered.{report-permuted}
use Rattle.px_verify.proofs.machine.report_on.Goals as goal

pub returns-in-Ok-clause-ok : goal.returns-in-Ok-clause-ok
returns-in-Ok-clause-ok c = λ apart rising.
    rw (c.as_slice.ensures.value, c.as_slice-in-Ok.ensures.value) at c.compare.ensures (c.in-Ok.ensures.rising apart) rising ∙ report-permuted _ _ _ c.in-Ok.ensures.same
