use Rattle.std.proofs.Common.{◌≡◌, not, map}
use Rattle.std.specs.Prelude.{filter}
use Rattle.std.specs.List.{range_with_len}
use Rattle.px_held.specs.Merged.{is_of_key, null}
use Rattle.px_held.proofs.merging.nulls.Given as goal

abbrev pub invariant-loop-column : goal.invariant-loop-column
invariant-loop-column l = l.list.items ≡ map null (filter (λ c. not (is_of_key (map (λ p. p.column) l.table.key) c)) (range_with_len 0 l.column))
