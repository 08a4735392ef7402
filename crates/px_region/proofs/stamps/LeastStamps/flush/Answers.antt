use Rattle.std.proofs.Common.{refl, inl, inr, arith}
use Rattle.px_region.proofs.Least.{least_left}
use Rattle.px_region.proofs.stamps.LeastStamps.flush.Goals as goal

pub returns-then-self-flushed : goal.returns-then-self-flushed
returns-then-self-flushed c = λ old batches le all. least_left c.args.self.now _ old c.args.flushed batches le (inr (let t = c.if-self-flushed.true in omega arith)) refl refl all

pub returns-else-self-flushed : goal.returns-else-self-flushed
returns-else-self-flushed c = λ old batches le all. least_left c.args.self.now _ old c.args.flushed batches le (inl refl) refl refl all
