use Rattle.px_keyfilter.proofs.Bits.{no_key}
use Rattle.px_keyfilter.proofs.Kept.{none_has}
use Rattle.px_keyfilter.proofs.laws.a_key_that_is_not_there.Goals as goal

pub returns : goal.returns
returns c = record { none = none_has; empty = no_key }
