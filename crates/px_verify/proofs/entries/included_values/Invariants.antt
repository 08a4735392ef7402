use Rattle.std.proofs.Common.{◌≡◌, take}
use Rattle.px_verify.specs.Lists.{values_in}
use Rattle.px_verify.proofs.entries.included_values.Given as goal

abbrev pub invariant-loop-column : goal.invariant-loop-column
invariant-loop-column l = l.values.items ≡ values_in (take l.column-index l.included) l.row
