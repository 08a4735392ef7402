use Rattle.std.proofs.Common.{◌≡◌, length, min, take}
use Rattle.px_cellbytes.specs.Spelling.{all_bytes}
use Rattle.px_keptcells.proofs.kept.part_bytes.Given as goal

abbrev pub invariant-loop-cell : goal.invariant-loop-cell
invariant-loop-cell l = l.bytes ≡ min (length (all_bytes (take l.cell-index l.cells))) 18446744073709551615
