use Rattle.std.proofs.Common.{◌≡◌, take}
use Rattle.px_trail.specs.Trail.{missed_call}
use Rattle.px_server.proofs.missing.last_missed.Given as goal

abbrev pub invariant-loop-i : goal.invariant-loop-i
invariant-loop-i l = l.missed ≡ missed_call (take l.i l.trail.entries)
