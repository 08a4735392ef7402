use Rattle.std.proofs.Common.{◌≡◌, replicate}
use Rattle.px_values.specs.declared.row.Value.TheVariants.{Null}
use Rattle.px_rows.proofs.reading.nulls.Given as goal

abbrev pub invariant-loop-index : goal.invariant-loop-index
invariant-loop-index l = l.values.items ≡ replicate l.index Null
