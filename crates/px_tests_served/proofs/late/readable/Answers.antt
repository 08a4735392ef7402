use Rattle.std.proofs.Common.{◌∙◌, sym, arith}
use Rattle.px_tests_served.proofs.Sights.{first-of, first-readable}
use Rattle.px_tests_served.proofs.late.readable.Goals as goal

pub returns-else-index-point : goal.returns-else-index-point
returns-else-index-point c =
    let first = first-of c.as_slice.result.now c.index-item.result c.in-len1-up.len_at_least c.index-item.is in
    first-readable c.args.point.now c.index-item.result first.0 (sym c.as_slice.ensures ∙ first.1) c.in-Active.is (omega arith)
