use Rattle.std.proofs.Common.{◌≡◌, ◌++◌}
use Rattle.std.specs.Vec.Iter.{into_iter_items}
use Rattle.px_verify.specs.Lists.{HaveKeys, entries_of}
use Rattle.px_verify.proofs.entries.keep_rows.Given as goal

abbrev pub invariant-loop-key : goal.invariant-loop-key
invariant-loop-key l =
    HaveKeys l.path l.fn.keys → HaveKeys l.path (into_iter_items l.key-iterator) × (l.rows.items ++ entries_of l.path l.included (into_iter_items l.key-iterator) ≡ l.fn.rows.items ++ entries_of l.path l.included l.fn.keys)
