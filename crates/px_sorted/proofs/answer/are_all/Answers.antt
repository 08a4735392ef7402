use Rattle.std.proofs.Common.{arith}
use Rattle.px_sorted.proofs.Whole.{whole_row}
use Rattle.px_sorted.proofs.answer.are_all.Goals as goal

pub returns : goal.returns
returns c = λ t row long. whole_row c.args.columns.now row (let n = c.if-columns-count.false in omega arith) (λ k lt. c.loop-place.invariant k (let l = c.loop-place-test.false in omega arith))
