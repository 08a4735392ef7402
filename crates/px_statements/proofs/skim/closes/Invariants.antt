use Rattle.std.proofs.Common.{◌≡◌}
use Rattle.px_statements.specs.inner.Skim as spec
use Rattle.px_statements.proofs.skim.closes.Given as goal

abbrev pub invariant-loop-tokens : goal.invariant-loop-tokens
invariant-loop-tokens l = spec.closes l.inside l.tokens ≡ spec.closes l.fn.inside l.fn.tokens

abbrev pub decreases-loop-tokens : goal.decreases-loop-tokens
decreases-loop-tokens l = l.inside
