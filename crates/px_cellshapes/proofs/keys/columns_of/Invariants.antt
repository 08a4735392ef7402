use Rattle.std.proofs.Common.{◌≡◌, take}
use Rattle.px_paths.specs.Paths.{columns_on}
use Rattle.px_cellshapes.proofs.keys.columns_of.Given as goal

abbrev pub invariant-loop-part : goal.invariant-loop-part
invariant-loop-part l = l.columns.items ≡ columns_on (take l.part-index l.path)
