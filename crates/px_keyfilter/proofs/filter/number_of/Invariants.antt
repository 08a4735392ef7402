use Rattle.std.proofs.Common.{◌≡◌, take}
use Rattle.std.specs.Prelude.{fold}
use Rattle.px_keyfilter.specs.Keys.{mixed}
use Rattle.px_keyfilter.proofs.filter.number_of.Given as goal

abbrev pub invariant-loop-byte : goal.invariant-loop-byte
invariant-loop-byte l = l.number ≡ fold mixed 1442695040888963407 (take l.byte-index l.key)
