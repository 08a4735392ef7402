use Rattle.std.proofs.Common.{sym}
use Rattle.px_verify.proofs.Fronts.{counts-on}
use Rattle.px_verify.proofs.merging.compare.Goals as goal

pub keys-preserved : goal.keys-preserved
keys-preserved c =
    counts-on _ _ _ _ _ _ _ _ c.in-Some.taken (sym c.in-Some.ensures) c.add.ensures c.left_of-rows_left.ensures c.left_of-versions_left.ensures c.keys.invariant
