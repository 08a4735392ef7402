use Rattle.std.proofs.Common.{◌≡◌, ◌++◌, take, map}
use Rattle.px_paths.specs.Paths.{index_part}
use Rattle.px_paths.proofs.path.add_parts.Given as goal

abbrev pub invariant-loop-part : goal.invariant-loop-part
invariant-loop-part l = l.path.items ≡ l.fn.path.items ++ map (index_part l.table) (take l.part-index l.parts)
