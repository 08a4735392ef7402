use Rattle.std.proofs.Common.{◌-◌, ℕ}
use Rattle.px_pieces.specs.Taking.{IsPartWay}
use Rattle.px_schema.specs.Parts.{blank_column, column_piece}
use Rattle.px_schema.proofs.list.columns_from.Given as goal

abbrev pub invariant-loop-taken : goal.invariant-loop-taken
invariant-loop-taken l = IsPartWay blank_column (λ (left : ℕ) (u : Unit {0}). column_piece) (λ u x. u) l.count tt l.bytes l.at l.list.items (l.count - l._taken) tt l.end
