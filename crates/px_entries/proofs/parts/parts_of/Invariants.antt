use Rattle.std.proofs.Common.{◌≡◌, take}
use Rattle.px_keys.specs.Spelling.{columns_of, values_of}
use Rattle.px_paths.specs.Paths.{columns_on, values_on}
use Rattle.px_entries.proofs.parts.parts_of.Given as goal

abbrev pub invariant-loop-column : goal.invariant-loop-column
invariant-loop-column l = (columns_of l.parts.items ≡ columns_on (take l.column-index l.path)) × (values_of l.parts.items ≡ values_on (take l.column-index l.path) l.row)
