use Rattle.std.proofs.Common.{◌≡◌, drop}
use Rattle.px_bind.specs.Upserts.{given_faults}
use Rattle.px_bind.proofs.upserts.check_all_given.Given as goal

abbrev pub invariant-loop-index : goal.invariant-loop-index
invariant-loop-index l = given_faults l.columns l.places l.values ≡ given_faults l.columns (drop l.index l.places) (drop l.index l.values)
