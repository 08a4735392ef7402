use Rattle.std.proofs.Common.{map, ◌<◌, ◌^◌}
use Rattle.px_pieces.specs.Numbers.{begins_one}
use Rattle.px_pieces.proofs.Bytewise.{IsNumberPart}
use Rattle.px_schema.proofs.numbered.one_of_in.Given as goal

abbrev pub invariant-loop-taken : goal.invariant-loop-taken
invariant-loop-taken g l = IsNumberPart (begins_one (map g.T.Numbered.number_of l.standing)) 4 l.bytes l.at l.taken l.value × (l.value < 256 ^ l.taken)
