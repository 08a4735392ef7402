use Rattle.std.proofs.Common.{◌≡◌, map, length}
use Rattle.px_parse.specs.LeftOut as spec
use Rattle.px_parse.proofs.left_out.lookup.Given as goal

abbrev pub invariant-loop-table : goal.invariant-loop-table
invariant-loop-table l = spec.name_beside (map (λ x. (x.0, x.1.now)) l.table) l.kind ≡ spec.name_beside (map (λ x. (x.0, x.1.now)) l.initial.table) l.kind

abbrev pub decreases-loop-table : goal.decreases-loop-table
decreases-loop-table l = length l.table
