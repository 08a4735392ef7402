use Rattle.std.proofs.Common.{refl}
use Rattle.px_keyfilter.specs.Keys as spec
use Rattle.px_keyfilter.proofs.filter.bit_of.Goals as goal

pub returns-clause-bit : goal.returns-clause-bit
unfolding spec.bit_of
returns-clause-bit c = refl
