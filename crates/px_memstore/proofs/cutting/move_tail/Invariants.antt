use Rattle.std.proofs.Common.{◌≡◌, ◌+◌, ◌≤◌, ◌++◌, drop, take, vec_capacity, vec_len}
use Rattle.std.specs.Prelude.{reverse}
use Rattle.px_memstore.proofs.cutting.move_tail.Given as goal

abbrev pub invariant-loop-from : goal.invariant-loop-from
invariant-loop-from l = record {
  kept : take l.at l.from.items ≡ take l.at l.fn.from.items;
  moved : drop l.at l.from.items ++ reverse l.to.items ≡ drop l.at l.fn.from.items;
  within : l.at ≤ vec_len l.from;
  len : vec_len l.from + vec_len l.to ≡ vec_len l.fn.from;
  room : vec_capacity l.fn.to ≤ vec_capacity l.to;
  capacity : vec_capacity l.from ≡ vec_capacity l.fn.from;
}

abbrev pub decreases-loop-from : goal.decreases-loop-from
decreases-loop-from l = vec_len l.from
