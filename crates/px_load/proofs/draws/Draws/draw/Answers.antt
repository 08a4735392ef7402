use Rattle.std.proofs.Common.{◌*◌, refl}
use Rattle.std.proofs.Math.Nat.{mod-add-mod}
use Rattle.px_load.specs.Rows.{drawn, next}
use Rattle.px_load.proofs.draws.Draws.draw.Goals as goal

pub returns-clause-goes_on : goal.returns-clause-goes_on
unfolding next
returns-clause-goes_on c = mod-add-mod (c.args.self.now.number * 6364136223846793005) 18446744073709551616 1442695040888963407

pub returns-clause-given : goal.returns-clause-given
unfolding drawn
returns-clause-given c = refl
