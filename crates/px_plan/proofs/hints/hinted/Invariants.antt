use Rattle.std.proofs.Common.{◌≡◌, drop}
use Rattle.px_plan.specs.Choice.{hinted}
use Rattle.px_plan.proofs.hints.hinted.Given as goal

abbrev pub invariant-loop-hint : goal.invariant-loop-hint
invariant-loop-hint l = hinted l.indexes l.point l.hints ≡ hinted l.indexes l.point (drop l.hint-index l.hints)
