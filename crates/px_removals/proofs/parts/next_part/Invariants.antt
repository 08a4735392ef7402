use Rattle.std.proofs.Common.{◌≡◌, take, drop, vec_len, vec_capacity}
use Rattle.px_removals.proofs.parts.next_part.Given as goal

abbrev pub invariant-loop-i : goal.invariant-loop-i
invariant-loop-i l =
    record {
      part : l.part.items ≡ take l.i l.initial.left.items;
      left : l.left.items ≡ drop l.i l.initial.left.items;
      long : vec_len l.part ≡ l.i;
      room : vec_capacity l.part ≡ l.rows;
    }
