use Rattle.std.proofs.Common.{refl}
use Rattle.px_region.proofs.Holding.{log_rolled, log_stays, manifest_rolled, manifest_stays, stands_now, touches_log, touches_manifest}
use Rattle.px_region.proofs.region.Region.prepare_step.Goals as goal

pub returns-in-Ok-clause-done : goal.returns-in-Ok-clause-done
returns-in-Ok-clause-done g c = λ s holds.
    log_rolled g.D.Disk c.args.self.now c.args.disk.now s holds c.roll_step.new.disk (c.roll_step.ensures.touches _ _ holds.batches holds.has.parts.log) _ _ (c.in-Ok.ensures.done _ _ holds.batches holds.has.parts.log) refl refl refl refl refl refl refl refl refl

pub returns-in-Ok-clause-any_moment : goal.returns-in-Ok-clause-any_moment
returns-in-Ok-clause-any_moment g c = λ s holds.
    log_stays g.D.Disk c.args.self.now c.args.disk.now s holds c.roll_step.new.disk (c.roll_step.ensures.touches _ _ holds.batches holds.has.parts.log) (c.roll_step.ensures.any_moment _ _ holds.batches holds.has.parts.log)

pub returns-in-Ok-clause-touches : goal.returns-in-Ok-clause-touches
returns-in-Ok-clause-touches g c = λ s holds. touches_log g.D.Disk c.args.self.now c.args.disk.now s holds c.roll_step.new.disk (c.roll_step.ensures.touches _ _ holds.batches holds.has.parts.log)

pub returns-in-Err-clause-any_moment : goal.returns-in-Err-clause-any_moment
returns-in-Err-clause-any_moment g c = λ s holds.
    log_stays g.D.Disk c.args.self.now c.args.disk.now s holds c.roll_step.new.disk (c.roll_step.ensures.touches _ _ holds.batches holds.has.parts.log) (c.roll_step.ensures.any_moment _ _ holds.batches holds.has.parts.log)

pub returns-in-Err-clause-touches : goal.returns-in-Err-clause-touches
returns-in-Err-clause-touches g c = λ s holds. touches_log g.D.Disk c.args.self.now c.args.disk.now s holds c.roll_step.new.disk (c.roll_step.ensures.touches _ _ holds.batches holds.has.parts.log)

pub returns-then-is_open-clause-any_moment : goal.returns-then-is_open-clause-any_moment
returns-then-is_open-clause-any_moment g c = λ s holds. stands_now g.D.Disk c.args.self.now c.args.disk.now s holds g.met.D.Disk.up_to_now

pub returns-in-Err-with_room-clause-any_moment : goal.returns-in-Err-with_room-clause-any_moment
returns-in-Err-with_room-clause-any_moment g c = λ s holds. stands_now g.D.Disk c.args.self.now c.args.disk.now s holds g.met.D.Disk.up_to_now

pub returns-in-Ok-More-clause-done : goal.returns-in-Ok-More-clause-done
returns-in-Ok-More-clause-done g c = λ s holds.
    manifest_rolled g.D.Disk c.args.self.now c.args.disk.now s holds c.roll_step-2.new.disk (c.roll_step-2.ensures.touches _ holds.has.parts.named) _ _ (c.in-Ok-More.ensures.done _ holds.has.parts.named) c.roll_step-2.ensures.named refl refl refl refl refl refl refl refl refl

pub returns-in-Ok-More-clause-any_moment : goal.returns-in-Ok-More-clause-any_moment
returns-in-Ok-More-clause-any_moment g c = λ s holds.
    manifest_stays g.D.Disk c.args.self.now c.args.disk.now s holds c.roll_step-2.new.disk (c.roll_step-2.ensures.touches _ holds.has.parts.named) (c.roll_step-2.ensures.any_moment _ holds.has.parts.named)

pub returns-in-Ok-More-clause-touches : goal.returns-in-Ok-More-clause-touches
returns-in-Ok-More-clause-touches g c = λ s holds. touches_manifest g.D.Disk c.args.self.now c.args.disk.now s holds c.roll_step-2.new.disk (c.roll_step-2.ensures.touches _ holds.has.parts.named)

pub returns-in-Ok-Rolled-clause-done : goal.returns-in-Ok-Rolled-clause-done
returns-in-Ok-Rolled-clause-done g c = λ s holds.
    manifest_rolled g.D.Disk c.args.self.now c.args.disk.now s holds c.roll_step-2.new.disk (c.roll_step-2.ensures.touches _ holds.has.parts.named) _ _ (c.in-Ok-Rolled.ensures.done _ holds.has.parts.named) c.roll_step-2.ensures.named refl refl refl refl refl refl refl refl refl

pub returns-in-Ok-Rolled-clause-any_moment : goal.returns-in-Ok-Rolled-clause-any_moment
returns-in-Ok-Rolled-clause-any_moment g c = λ s holds.
    manifest_stays g.D.Disk c.args.self.now c.args.disk.now s holds c.roll_step-2.new.disk (c.roll_step-2.ensures.touches _ holds.has.parts.named) (c.roll_step-2.ensures.any_moment _ holds.has.parts.named)

pub returns-in-Ok-Rolled-clause-touches : goal.returns-in-Ok-Rolled-clause-touches
returns-in-Ok-Rolled-clause-touches g c = λ s holds. touches_manifest g.D.Disk c.args.self.now c.args.disk.now s holds c.roll_step-2.new.disk (c.roll_step-2.ensures.touches _ holds.has.parts.named)

pub returns-clause-any_moment : goal.returns-clause-any_moment
returns-clause-any_moment g c = λ s holds.
    manifest_stays g.D.Disk c.args.self.now c.args.disk.now s holds c.roll_step-2.new.disk (c.roll_step-2.ensures.touches _ holds.has.parts.named) (c.roll_step-2.ensures.any_moment _ holds.has.parts.named)

pub returns-clause-touches : goal.returns-clause-touches
returns-clause-touches g c = λ s holds. touches_manifest g.D.Disk c.args.self.now c.args.disk.now s holds c.roll_step-2.new.disk (c.roll_step-2.ensures.touches _ holds.has.parts.named)
