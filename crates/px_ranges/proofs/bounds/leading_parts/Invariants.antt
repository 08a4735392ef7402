use Rattle.std.proofs.Common.{◌≡◌, take}
use Rattle.px_keys.specs.Spelling.{columns_of, values_of}
use Rattle.px_ranges.proofs.bounds.leading_parts.Given as goal

abbrev pub invariant-loop-index : goal.invariant-loop-index
invariant-loop-index l = record { values : values_of l.parts.items ≡ take l.index l.equal; columns : columns_of l.parts.items ≡ take l.index l.columns }
