use Rattle.std.proofs.Common.{take}
use Rattle.px_rounds.specs.Rounds.{AreWithin}
use Rattle.px_rounds.proofs.count.sessions_in.Given as goal

abbrev pub invariant-loop-round : goal.invariant-loop-round
invariant-loop-round l = AreWithin l.most (take l.round-index l.rounds)
