use Rattle.std.proofs.Common.{◌≡◌, take}
use Rattle.px_keys.specs.inner.Written.{bytes_of}
use Rattle.px_keys.proofs.writing.spell_front.Given as goal

abbrev pub invariant-loop-part : goal.invariant-loop-part
invariant-loop-part l = l.front.items ≡ bytes_of (take l.part-index l.parts)
