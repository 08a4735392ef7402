use Rattle.std.proofs.Common.{◌≡◌, drop}
use Rattle.px_plan.specs.Choice.{index_named}
use Rattle.px_plan.proofs.hints.index_named.Given as goal

abbrev pub invariant-loop-index : goal.invariant-loop-index
invariant-loop-index l = index_named l.indexes l.name ≡ index_named (drop l.index-index l.indexes) l.name
