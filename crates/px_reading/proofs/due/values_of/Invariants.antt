use Rattle.std.proofs.Common.{◌≡◌, take, map}
use Rattle.px_reading.specs.Doubts.{state_bytes}
use Rattle.px_reading.proofs.due.values_of.Given as goal

abbrev pub invariant-loop-column : goal.invariant-loop-column
invariant-loop-column l = l.values.items ≡ map (λ c. state_bytes l.table l.state c) (take l.column-index l.included)
