use Rattle.std.proofs.Common.{◌≡◌, take}
use Rattle.px_baserows.specs.Rows.{owners_in}
use Rattle.px_baserows.proofs.rows.owners_of.Given as goal

abbrev pub invariant-loop-base : goal.invariant-loop-base
invariant-loop-base l = l.owners.items ≡ owners_in l.table (take l.base-index l.rows)
