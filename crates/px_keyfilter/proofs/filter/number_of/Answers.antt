use Rattle.std.proofs.Common.{arith}
use Rattle.std.proofs.lemmas.Grind.{common_steps}
use Rattle.px_keyfilter.specs.Keys as spec
use Rattle.px_keyfilter.proofs.filter.number_of.Goals as goal

pub returns : goal.returns
unfolding spec.number_of
returns c = grind (arith, common_steps)
