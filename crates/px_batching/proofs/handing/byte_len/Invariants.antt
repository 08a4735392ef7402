use Rattle.std.proofs.Common.{◌≡◌, take, length}
use Rattle.px_cellbytes.specs.Spelling.{all_bytes}
use Rattle.px_batching.proofs.handing.byte_len.Given as goal

abbrev pub invariant-loop-cell : goal.invariant-loop-cell
invariant-loop-cell l = l.bytes ≡ length (all_bytes (take l.cell-index l.cells))
