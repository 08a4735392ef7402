use Rattle.std.proofs.Common.{◌≡◌, take}
use Rattle.std.specs.Prelude.{max}
use Rattle.px_file.specs.Format.{greatest_stamp_in}
use Rattle.px_file.proofs.adding.greatest.Given as goal

abbrev pub invariant-loop-cell : goal.invariant-loop-cell
invariant-loop-cell l = l.most ≡ max l.fn.stamp (greatest_stamp_in (take l.cell-index l.block))
