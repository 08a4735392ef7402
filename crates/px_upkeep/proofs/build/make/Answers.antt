use Rattle.px_upkeep.proofs.Making.{goes-on}
use Rattle.px_upkeep.proofs.build.make.Goals as goal

pub returns-in-Ok : goal.returns-in-Ok
returns-in-Ok g c = goes-on c.args.build c.args.table c.args.index c.args.chunks _ c.args.next _ (rw (c.as_slice.ensures, c.as_slice-2.ensures, c.as_slice-3.ensures) at c.in-Ok.ensures.ok) c.base_on.ensures
