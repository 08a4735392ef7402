use Rattle.std.proofs.Common.{take}
use Rattle.px_memstore.specs.Left.{left}
use Rattle.px_memstore.specs.Pieces.{chained}
use Rattle.px_merge.specs.Kept.{IsKeptList}
use Rattle.px_region.proofs.keeping.keeps_right.Given as goal

abbrev pub invariant-loop-at : goal.invariant-loop-at
invariant-loop-at l = IsKeptList (chained (take l.at l.store.pieces)) l.horizon (left l.kept l.horizon (chained (take l.at l.store.pieces)))
