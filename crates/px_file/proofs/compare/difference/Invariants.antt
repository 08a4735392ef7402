use Rattle.std.proofs.Common.{◌≡◌, ◌≤◌, length, take}
use Rattle.px_file.proofs.compare.difference.Given as goal

abbrev pub invariant-loop-i : goal.invariant-loop-i
invariant-loop-i l = record {
  same : take l.i l.found ≡ take l.i l.right;
  within : l.i ≤ length l.found;
}
