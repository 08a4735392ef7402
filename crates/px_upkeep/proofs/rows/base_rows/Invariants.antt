use Rattle.std.specs.Vec.Iter.{into_iter_items}
use Rattle.px_upkeep.proofs.Keeping.{Keeps}
use Rattle.px_upkeep.proofs.rows.base_rows.Given as goal

abbrev pub invariant-loop-key : goal.invariant-loop-key
invariant-loop-key l = Keeps l.table l.keys l.columns l.fn.found (into_iter_items l.key-iterator) l.rows.items
