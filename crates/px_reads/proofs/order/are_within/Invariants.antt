use Rattle.std.proofs.Common.{take}
use Rattle.std.specs.Option.{option_copied}
use Rattle.px_reads.specs.Range.{AllWithin}
use Rattle.px_reads.proofs.order.are_within.Given as goal

abbrev pub invariant-loop-cell : goal.invariant-loop-cell
invariant-loop-cell l = AllWithin l.low (option_copied l.high) (take l.cell-index l.cells)
