use Rattle.std.proofs.Common.{◌-◌, ℕ}
use Rattle.px_pieces.specs.Taking.{IsPartWay}
use Rattle.px_schema.specs.Format.{no_table, table}
use Rattle.px_schema.proofs.table.tables_from.Given as goal

abbrev pub invariant-loop-taken : goal.invariant-loop-taken
invariant-loop-taken l = IsPartWay no_table (λ (left : ℕ) (u : Unit {0}). table) (λ u x. u) l.count tt l.bytes l.at l.list.items (l.count - l._taken) tt l.end
