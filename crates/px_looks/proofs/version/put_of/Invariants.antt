use Rattle.std.proofs.Common.{◌≡◌}
use Rattle.std.specs.Prelude.{drop, nat_eq}
use Rattle.std.specs.List.{find}
use Rattle.px_looks.specs.inner.Seen.{cell_in}
use Rattle.px_looks.proofs.version.put_of.Given as goal

abbrev pub invariant-loop-i : goal.invariant-loop-i
invariant-loop-i l = cell_in l.seen l.qualifier ≡ find (λ c. nat_eq c.qualifier l.qualifier) (drop l.i l.seen)
