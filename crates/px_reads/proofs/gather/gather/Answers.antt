use Rattle.std.proofs.Common.{ℕ, [], subst}
use Rattle.px_merge.specs.Merged.{joined}
use Rattle.px_merge.specs.Settle.{settle}
use Rattle.px_reads.specs.inner.Fronts.{AreFrontRows}
use Rattle.px_reads.proofs.Counts.{front_is}
use Rattle.px_reads.proofs.gather.gather.Goals as goal

pub returns-in-Ok-clause-front : goal.returns-in-Ok-clause-front
returns-in-Ok-clause-front g c = λ lists give.
    let x = c.in-Ok.ensures.given lists [] give c.new-copies.ensures.none in
    let taker = c.give.new.taker in
    let all = settle (joined lists) in
    subst (λ (most : ℕ). AreFrontRows all most taker.cells.items taker.rows) c.new-copies.ensures.most (front_is all c.new-copies.result.most x.0 x.1.within x.1.asked x.1.ended taker.cells.items taker.rows x.2 taker.counted)
