use Rattle.std.proofs.Common.{◌-◌, ℕ}
use Rattle.px_pieces.specs.Taking.{IsPartWay}
use Rattle.px_schema.specs.Format.{index, no_index}
use Rattle.px_schema.proofs.index.indexes_from.Given as goal

abbrev pub invariant-loop-taken : goal.invariant-loop-taken
invariant-loop-taken l = IsPartWay no_index (λ (left : ℕ) (u : Unit {0}). index l.tables) (λ u x. u) l.count tt l.bytes l.at l.list.items (l.count - l._taken) tt l.end
