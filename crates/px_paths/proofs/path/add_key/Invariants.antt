use Rattle.std.proofs.Common.{◌≡◌, ◌++◌, take, map, filter, not}
use Rattle.px_paths.specs.Paths.{is_keyed, key_part}
use Rattle.px_paths.proofs.path.add_key.Given as goal

abbrev pub invariant-loop-part : goal.invariant-loop-part
invariant-loop-part l = l.path.items ≡ l.fn.path.items ++ map (key_part l.table.columns) (filter (λ p. not (is_keyed l.parts p.column)) (take l.part-index l.key))
