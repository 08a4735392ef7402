use Rattle.px_region.proofs.Holding.{stands_now}
use Rattle.px_region.proofs.region.Region.upkeep_step.Goals as goal

pub returns-in-Some-clause-any_moment : goal.returns-in-Some-clause-any_moment
returns-in-Some-clause-any_moment g c = λ s holds. stands_now g.D.Disk c.args.self.now c.args.disk.now s holds g.met.D.Disk.up_to_now
