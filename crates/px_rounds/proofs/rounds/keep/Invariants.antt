use Rattle.std.proofs.Common.{◌≡◌, ◌≤◌, ◌+◌, ◌++◌, length}
use Rattle.std.specs.Prelude.{vec_capacity}
use Rattle.std.specs.Vec.Iter.{into_iter_items}
use Rattle.px_rounds.proofs.rounds.keep.Given as goal

abbrev pub invariant-loop-transcript : goal.invariant-loop-transcript
invariant-loop-transcript l = record {
  left : l.done.items ++ into_iter_items l.transcript-iterator ≡ l.fn.done.items ++ l.fn.more.items;
  room : length l.done.items + length (into_iter_items l.transcript-iterator) ≤ vec_capacity l.done;
}
