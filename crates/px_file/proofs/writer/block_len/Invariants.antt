use Rattle.std.proofs.Common.{◌≡◌, ◌<◌, length, take}
use Rattle.px_cellbytes.specs.Spelling.{all_bytes}
use Rattle.px_file.proofs.writer.block_len.Given as goal

abbrev pub invariant-loop-i : goal.invariant-loop-i
invariant-loop-i l = record {
  size : l.size ≡ length (all_bytes (take l.i l.cells));
  under : l.size < 32768;
}
