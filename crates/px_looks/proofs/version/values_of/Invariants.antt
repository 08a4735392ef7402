use Rattle.std.proofs.Common.{◌≡◌, suc, take, map}
use Rattle.px_looks.specs.inner.Seen.{value_in}
use Rattle.px_looks.proofs.version.values_of.Given as goal

abbrev pub invariant-loop-column : goal.invariant-loop-column
invariant-loop-column l = l.values.items ≡ map (λ c. value_in l.seen (suc (suc c))) (take l.column-index l.columns)
