use Rattle.std.proofs.Common.{◌-◌, ℕ}
use Rattle.px_pieces.specs.Taking.{IsPartWay}
use Rattle.px_schema.specs.Parts.{blank_part, part_piece}
use Rattle.px_schema.proofs.list.parts_from.Given as goal

abbrev pub invariant-loop-taken : goal.invariant-loop-taken
invariant-loop-taken l = IsPartWay blank_part (λ (left : ℕ) (u : Unit {0}). part_piece l.columns) (λ u x. u) l.count tt l.bytes l.at l.list.items (l.count - l._taken) tt l.end
