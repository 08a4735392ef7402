use Rattle.std.proofs.Common.{◌≡◌, take, map}
use Rattle.px_paths.specs.Paths.{key_part}
use Rattle.px_paths.proofs.path.table_path.Given as goal

abbrev pub invariant-loop-part : goal.invariant-loop-part
invariant-loop-part l = l.path.items ≡ map (key_part l.table.columns) (take l.part-index l.key)
