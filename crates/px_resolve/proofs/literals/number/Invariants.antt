use Rattle.std.proofs.Common.{◌≡◌, ◌^◌, ◌-◌, ◌<◌, min, drop}
use Rattle.std.specs.Str.Parse.{digits_value, digits_value_after}
use Rattle.px_resolve.proofs.literals.number.Given as goal

abbrev pub invariant-loop-byte : goal.invariant-loop-byte
invariant-loop-byte l = (min (digits_value_after 10 l.number (drop l.byte-index l.digits)) (2 ^ 127 - 1) ≡ min (digits_value 10 l.digits) (2 ^ 127 - 1)) × (l.number < 2 ^ 128)
