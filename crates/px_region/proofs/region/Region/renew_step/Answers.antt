use Rattle.std.proofs.Common.{refl}
use Rattle.px_region.proofs.Holding.{manifest_rolled, manifest_stays, stands_now, touches_manifest}
use Rattle.px_region.proofs.region.Region.renew_step.Goals as goal

pub returns-in-Err-clause-any_moment : goal.returns-in-Err-clause-any_moment
returns-in-Err-clause-any_moment g c = λ s holds. stands_now g.D.Disk c.args.self.now c.args.disk.now s holds g.met.D.Disk.up_to_now

pub returns-in-Ok-roll_step-clause-done : goal.returns-in-Ok-roll_step-clause-done
returns-in-Ok-roll_step-clause-done g c = λ s holds.
    manifest_rolled g.D.Disk c.args.self.now c.args.disk.now s holds c.roll_step.new.disk (c.roll_step.ensures.touches _ holds.has.parts.named) _ _ (c.in-Ok-roll_step.ensures.done _ holds.has.parts.named) c.roll_step.ensures.named refl refl refl refl refl refl refl refl refl

pub returns-in-Ok-roll_step-clause-any_moment : goal.returns-in-Ok-roll_step-clause-any_moment
returns-in-Ok-roll_step-clause-any_moment g c = λ s holds.
    manifest_stays g.D.Disk c.args.self.now c.args.disk.now s holds c.roll_step.new.disk (c.roll_step.ensures.touches _ holds.has.parts.named) (c.roll_step.ensures.any_moment _ holds.has.parts.named)

pub returns-in-Ok-roll_step-clause-touches : goal.returns-in-Ok-roll_step-clause-touches
returns-in-Ok-roll_step-clause-touches g c = λ s holds. touches_manifest g.D.Disk c.args.self.now c.args.disk.now s holds c.roll_step.new.disk (c.roll_step.ensures.touches _ holds.has.parts.named)

pub returns-in-Err-WriteFault-clause-any_moment : goal.returns-in-Err-WriteFault-clause-any_moment
returns-in-Err-WriteFault-clause-any_moment g c = λ s holds.
    manifest_stays g.D.Disk c.args.self.now c.args.disk.now s holds c.roll_step.new.disk (c.roll_step.ensures.touches _ holds.has.parts.named) (c.roll_step.ensures.any_moment _ holds.has.parts.named)

pub returns-in-Err-WriteFault-clause-touches : goal.returns-in-Err-WriteFault-clause-touches
returns-in-Err-WriteFault-clause-touches g c = λ s holds. touches_manifest g.D.Disk c.args.self.now c.args.disk.now s holds c.roll_step.new.disk (c.roll_step.ensures.touches _ holds.has.parts.named)

pub returns-clause-any_moment : goal.returns-clause-any_moment
returns-clause-any_moment g c = λ s holds.
    manifest_stays g.D.Disk c.args.self.now c.args.disk.now s holds c.roll_step.new.disk (c.roll_step.ensures.touches _ holds.has.parts.named) (c.roll_step.ensures.any_moment _ holds.has.parts.named)

pub returns-clause-touches : goal.returns-clause-touches
returns-clause-touches g c = λ s holds. touches_manifest g.D.Disk c.args.self.now c.args.disk.now s holds c.roll_step.new.disk (c.roll_step.ensures.touches _ holds.has.parts.named)
