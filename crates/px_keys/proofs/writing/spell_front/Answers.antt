use Rattle.std.proofs.Common.{◌∙◌, ap, sym, take_all, arith}
use Rattle.px_keys.specs.inner.Written.{bytes_of}
use Rattle.px_keys.proofs.Written.{parts_spelled}
use Rattle.px_keys.proofs.writing.spell_front.Goals as goal

pub returns : goal.returns
returns c = c.loop-part.invariant ∙ ap bytes_of (take_all c.loop-part.part-index c.args.parts.now (omega arith)) ∙ sym (parts_spelled c.args.parts.now)
