use Rattle.std.proofs.Common.{◌≡◌, ◌≤◌, arith, rules}
use Rattle.std.specs.Prelude.{min}
use Rattle.px_region.proofs.Least.{least_aged}
use Rattle.px_region.proofs.stamps.LeastStamps.age.Goals as goal

pub returns : goal.returns
returns c = λ batches upto all.
    let self = c.args.self.now in
    let m : c.min-self.result ≡ min self.before self.behind = search rules in
    let first : c.min-self.result ≤ self.before = omega arith in
    let second : c.min-self.result ≤ self.behind = omega arith in
    least_aged self _ batches first second upto all
