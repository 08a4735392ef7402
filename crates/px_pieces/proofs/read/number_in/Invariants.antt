use Rattle.std.proofs.Common.{◌≤◌, ◌-◌, ◌/◌, ◌^◌}
use Rattle.px_pieces.specs.Numbers.{stays_up_to}
use Rattle.px_pieces.proofs.Bytewise.{IsNumberPart}
use Rattle.px_pieces.proofs.read.number_in.Given as goal

abbrev pub invariant-loop-taken : goal.invariant-loop-taken
invariant-loop-taken l = record {
  part : IsNumberPart (stays_up_to l.most) l.size l.bytes l.at l.taken l.value;
  low : l.value ≤ l.most / 256 ^ (l.size - l.taken);
}
