use Rattle.std.proofs.Common.{◌≡◌, ◌-◌, ◌≤◌}
use Rattle.px_statements.specs.inner.Skim as spec
use Rattle.px_statements.proofs.skim.skim.Given as goal

abbrev pub invariant-loop-turn : goal.invariant-loop-turn
invariant-loop-turn l = record { same : spec.skim_from (l._turn-end - l._turn) l.inside l.tokens ≡ spec.skim 0 l.fn.tokens; few : l.inside ≤ l._turn }
