use Rattle.std.proofs.Common.{rules}
use Rattle.px_catalog.proofs.Opening.{making_more, step_leaves}
use Rattle.px_catalog.proofs.catalog.Catalog.make_first.Goals as goal

pub returns-in-Ok-Rolled-clause-any_moment : goal.returns-in-Ok-Rolled-clause-any_moment
returns-in-Ok-Rolled-clause-any_moment g c = λ has.
    step_leaves g.D.Disk c.args.self.now c.args.disk.now c.loop.self c.loop.disk c.loop.invariant c.roll_step.new.disk c.roll_step.ensures.any_moment c.roll_step.ensures.touches c.roll_step.ensures.counts has

pub loop-preserved : goal.loop-preserved
loop-preserved g c =
    making_more g.D.Disk c.args.self.now c.args.disk.now c.loop.self c.loop.disk c.loop.invariant c.roll_step.new.disk c.roll_step.ensures.any_moment c.roll_step.ensures.touches c.roll_step.ensures.counts c.roll_step.new.self
    c.in-Ok-More.ensures.done c.roll_step.ensures.same (c.in-Ok-More.ensures.kept (search rules)) (c.in-Ok-More.ensures.more (search rules)) (c.in-Ok-More.ensures.unfailed (search rules))

pub returns-in-Err-WriteFault-clause-any_moment : goal.returns-in-Err-WriteFault-clause-any_moment
returns-in-Err-WriteFault-clause-any_moment g c = λ has.
    step_leaves g.D.Disk c.args.self.now c.args.disk.now c.loop.self c.loop.disk c.loop.invariant c.roll_step.new.disk c.roll_step.ensures.any_moment c.roll_step.ensures.touches c.roll_step.ensures.counts has

pub returns-in-Err-Memory-clause-any_moment : goal.returns-in-Err-Memory-clause-any_moment
returns-in-Err-Memory-clause-any_moment g c = λ has.
    step_leaves g.D.Disk c.args.self.now c.args.disk.now c.loop.self c.loop.disk c.loop.invariant c.roll_step.new.disk c.roll_step.ensures.any_moment c.roll_step.ensures.touches c.roll_step.ensures.counts has
