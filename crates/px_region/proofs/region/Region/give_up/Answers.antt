use Rattle.std.proofs.Common.{refl}
use Rattle.px_region.proofs.Holding.{flush_same}
use Rattle.px_region.proofs.region.Region.give_up.Goals as goal

pub returns-clause-done : goal.returns-clause-done
returns-clause-done g c = λ s disk holds.
    let self = c.args.self.now in
    flush_same g.D.Disk self disk s holds disk self.manifest c.give_up.new.self holds.lists _ (c.give_up.ensures.kept self.manifest self.wal disk holds.batches holds.lists holds.has) refl c.give_up.ensures.files.0 refl refl refl refl refl refl refl refl refl refl
