use Rattle.std.proofs.Common.{refl, arith}
use Rattle.px_region.proofs.Least.{least_more}
use Rattle.px_region.proofs.stamps.LeastStamps.add.Goals as goal

pub returns-then-number-self : goal.returns-then-number-self
returns-then-number-self c = λ batches all.
    least_more c.args.self.now _ batches (record { number = c.args.number; cells = c.args.cells.now }) refl (omega arith) c.least_of-self.ensures.within (record { before = λ le. absurd (let t = c.if-number-self.true in omega arith); behind = λ lt. c.least_of-self.ensures.from }) all

pub returns-else-number-self : goal.returns-else-number-self
returns-else-number-self c = λ batches all.
    least_more c.args.self.now _ batches (record { number = c.args.number; cells = c.args.cells.now }) refl c.least_of-self-else-number-self.ensures.within (omega arith) (record { before = λ le. c.least_of-self-else-number-self.ensures.from; behind = λ lt. absurd (let t = c.if-number-self.false in omega arith) }) all
