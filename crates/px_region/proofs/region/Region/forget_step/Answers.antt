use Rattle.std.proofs.Common.{◌∙◌, ap, refl, sym, Some}
use Rattle.px_region.proofs.Holding.{flush_same, stands_now}
use Rattle.px_region.proofs.Steps.{plain_stands}
use Rattle.px_region.proofs.region.Region.forget_step.Goals as goal

-- ---- a compaction that doesn't fit is given up

pub returns-else-fits-clause-done : goal.returns-else-fits-clause-done
returns-else-fits-clause-done g c = λ s holds other.
    let self = c.args.self.now in
    let disk = c.args.disk.now in
    flush_same g.D.Disk self disk s holds disk self.manifest c.give_up.new.self holds.lists _ (c.give_up.ensures.kept self.manifest self.wal disk holds.batches holds.lists holds.has) refl c.give_up.ensures.files.0 refl refl refl refl refl refl refl refl refl refl

pub returns-else-fits-clause-any_moment : goal.returns-else-fits-clause-any_moment
returns-else-fits-clause-any_moment g c = λ s holds. plain_stands g.D.Disk c.args.horizon _ _ _ s (stands_now g.D.Disk c.args.self.now c.args.disk.now s holds g.met.D.Disk.up_to_now)

-- ---- one that fits goes on

pub kept_step-requires-clause-under : goal.kept_step-requires-clause-under
kept_step-requires-clause-under g c = sym c.horizon.ensures ∙ c.in-Some.is ∙ ap (λ h. Some h) (c.fits.ensures c.if-fits.true).0

-- ---- upkeep

pub returns-in-Ok-More-clause-done : goal.returns-in-Ok-More-clause-done
returns-in-Ok-More-clause-done g c = λ s holds other. c.in-Ok-More.ensures.done s holds

pub returns-in-Ok-More-clause-any_moment : goal.returns-in-Ok-More-clause-any_moment
returns-in-Ok-More-clause-any_moment g c = λ s holds. plain_stands g.D.Disk c.args.horizon _ _ _ s (c.upkeep_step.ensures.any_moment s holds)

pub returns-in-Ok-Done-clause-done : goal.returns-in-Ok-Done-clause-done
returns-in-Ok-Done-clause-done g c = λ s holds other. c.in-Ok-Done.ensures.done s holds

pub returns-in-Ok-Done-clause-any_moment : goal.returns-in-Ok-Done-clause-any_moment
returns-in-Ok-Done-clause-any_moment g c = λ s holds. plain_stands g.D.Disk c.args.horizon _ _ _ s (c.upkeep_step.ensures.any_moment s holds)

pub returns-in-Err-clause-any_moment : goal.returns-in-Err-clause-any_moment
returns-in-Err-clause-any_moment g c = λ s holds. plain_stands g.D.Disk c.args.horizon _ _ _ s (c.upkeep_step.ensures.any_moment s holds)
