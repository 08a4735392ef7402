use Rattle.std.proofs.Common.{refl, ◌∙◌}
use Rattle.px_region.proofs.Holding.{log_rests, log_switched, rest_least, touches_log}
use Rattle.px_region.specs.Ordered.{flushed_of}
use Rattle.px_region.proofs.Least.{upto_last}
use Rattle.px_region.proofs.region.Region.switch_step.Goals as goal

pub returns-in-Ok-More-clause-done : goal.returns-in-Ok-More-clause-done
returns-in-Ok-More-clause-done g c = λ s holds.
    let log = holds.has.parts.log in
    let went = c.in-Ok-More.ensures.done _ _ holds.batches log c.requires.may in
    log_switched g.D.Disk c.args.self.now c.args.disk.now s holds c.switch_step.new.disk (c.switch_step.ensures.touches _ _ holds.batches log) _ _ _ went.0 went.1 c.requires.idle went.2
    (rest_least g.D.Disk c.args.self.now c.args.disk.now s holds c.switch_step.new.disk (c.switch_step.ensures.touches _ _ holds.batches log) went.0 went.1) refl refl refl refl refl refl refl refl refl

pub returns-in-Ok-Rolled-clause-done : goal.returns-in-Ok-Rolled-clause-done
returns-in-Ok-Rolled-clause-done g c = λ s holds.
    let log = holds.has.parts.log in
    let went = c.in-Ok-Rolled.ensures.done _ _ holds.batches log c.requires.may in
    let least = rest_least g.D.Disk c.args.self.now c.args.disk.now s holds c.switch_step.new.disk (c.switch_step.ensures.touches _ _ holds.batches log) went.0 went.1 in
    let upto = upto_last (flushed_of c.args.self.now) c.last-last.result went.0 went.2.right.rising (c.last-last.ensures ∙ went.2.last) in
    log_switched g.D.Disk c.args.self.now c.args.disk.now s holds c.switch_step.new.disk (c.switch_step.ensures.touches _ _ holds.batches log) _ _ _ went.0 went.1 c.requires.idle went.2 (c.age.ensures _ upto least) refl refl refl refl refl refl refl refl refl

pub returns-in-Ok-More-clause-any_moment : goal.returns-in-Ok-More-clause-any_moment
returns-in-Ok-More-clause-any_moment g c = λ s holds.
    let log = holds.has.parts.log in
    log_rests g.D.Disk c.args.self.now c.args.disk.now s holds c.switch_step.new.disk (c.switch_step.ensures.touches _ _ holds.batches log) (c.switch_step.ensures.any_moment _ _ holds.batches log c.requires.may)

pub returns-in-Ok-Rolled-clause-any_moment : goal.returns-in-Ok-Rolled-clause-any_moment
returns-in-Ok-Rolled-clause-any_moment g c = λ s holds.
    let log = holds.has.parts.log in
    log_rests g.D.Disk c.args.self.now c.args.disk.now s holds c.switch_step.new.disk (c.switch_step.ensures.touches _ _ holds.batches log) (c.switch_step.ensures.any_moment _ _ holds.batches log c.requires.may)

pub returns-in-Ok-More-clause-touches : goal.returns-in-Ok-More-clause-touches
returns-in-Ok-More-clause-touches g c = λ s holds. touches_log g.D.Disk c.args.self.now c.args.disk.now s holds c.switch_step.new.disk (c.switch_step.ensures.touches _ _ holds.batches holds.has.parts.log)

pub returns-in-Ok-Rolled-clause-touches : goal.returns-in-Ok-Rolled-clause-touches
returns-in-Ok-Rolled-clause-touches g c = λ s holds. touches_log g.D.Disk c.args.self.now c.args.disk.now s holds c.switch_step.new.disk (c.switch_step.ensures.touches _ _ holds.batches holds.has.parts.log)

pub returns-in-Err-WriteFault-clause-any_moment : goal.returns-in-Err-WriteFault-clause-any_moment
returns-in-Err-WriteFault-clause-any_moment g c = λ s holds.
    let log = holds.has.parts.log in
    log_rests g.D.Disk c.args.self.now c.args.disk.now s holds c.switch_step.new.disk (c.switch_step.ensures.touches _ _ holds.batches log) (c.switch_step.ensures.any_moment _ _ holds.batches log c.requires.may)

pub returns-in-Err-WriteFault-clause-touches : goal.returns-in-Err-WriteFault-clause-touches
returns-in-Err-WriteFault-clause-touches g c = λ s holds. touches_log g.D.Disk c.args.self.now c.args.disk.now s holds c.switch_step.new.disk (c.switch_step.ensures.touches _ _ holds.batches holds.has.parts.log)

pub returns-in-Err-Full-clause-any_moment : goal.returns-in-Err-Full-clause-any_moment
returns-in-Err-Full-clause-any_moment g c = λ s holds.
    let log = holds.has.parts.log in
    log_rests g.D.Disk c.args.self.now c.args.disk.now s holds c.switch_step.new.disk (c.switch_step.ensures.touches _ _ holds.batches log) (c.switch_step.ensures.any_moment _ _ holds.batches log c.requires.may)
