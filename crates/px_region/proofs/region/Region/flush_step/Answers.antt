use Rattle.std.proofs.Common.{refl}
use Rattle.px_region.proofs.Holding.{flush_same, stands_now}
use Rattle.px_region.proofs.region.Region.flush_step.Goals as goal

pub returns-in-Some-clause-done : goal.returns-in-Some-clause-done
returns-in-Some-clause-done g c = λ s holds.
    let self = c.args.self.now in
    let disk = c.args.disk.now in
    flush_same g.D.Disk self disk s holds disk self.manifest c.give_up.new.self holds.lists _ (c.give_up.ensures.kept self.manifest self.wal disk holds.batches holds.lists holds.has) refl c.give_up.ensures.files.0 refl refl refl refl refl refl refl refl refl refl

pub returns-in-Some-clause-any_moment : goal.returns-in-Some-clause-any_moment
returns-in-Some-clause-any_moment g c = λ s holds. stands_now g.D.Disk c.args.self.now c.args.disk.now s holds g.met.D.Disk.up_to_now
