use Rattle.std.proofs.Common.{◌≡◌, ℕ, subst}
use Rattle.px_outside.specs.OnDisk.{TouchesOnly}
use Rattle.px_outside.proofs.Moments.{touches_none}
use Rattle.px_flushing.proofs.Stages.{made_of, making_of, written_of}
use Rattle.px_flushing.proofs.stage.advance.Goals as goal

pub returns-in-Frozen-clause-stands : goal.returns-in-Frozen-clause-stands
returns-in-Frozen-clause-stands g c = λ is. c.begin.ensures.stands c.args.cells.now

pub returns-in-Making-clause-stands : goal.returns-in-Making-clause-stands
returns-in-Making-clause-stands g c = λ is.
    let w = making_of g.D.Disk c.args.file c.args.disk.now c.args.cells.now c.args.stage c.in-Making.making c.in-Making.is is in
    c.write.ensures.stands c.args.file w.0 w.1

pub returns-in-Making-clause-touches : goal.returns-in-Making-clause-touches
returns-in-Making-clause-touches g c = λ is.
    let w = making_of g.D.Disk c.args.file c.args.disk.now c.args.cells.now c.args.stage c.in-Making.making c.in-Making.is is in
    subst (λ (f : ℕ). TouchesOnly g.D.Disk c.args.disk.now c.write.new.disk (λ touched. touched ≡ f)) w.0 c.write.ensures.touches

pub returns-in-Written-clause-stands : goal.returns-in-Written-clause-stands
returns-in-Written-clause-stands g c = λ is.
    let w = written_of g.D.Disk c.args.file c.args.disk.now c.args.cells.now c.args.stage c.in-Written.making c.in-Written.is is in
    c.finish.ensures.stands c.args.file c.args.cells.now w.0 w.1

pub returns-in-Written-clause-touches : goal.returns-in-Written-clause-touches
returns-in-Written-clause-touches g c = λ is.
    let w = written_of g.D.Disk c.args.file c.args.disk.now c.args.cells.now c.args.stage c.in-Written.making c.in-Written.is is in
    subst (λ (f : ℕ). TouchesOnly g.D.Disk c.args.disk.now c.finish.new.disk (λ touched. touched ≡ f)) w.0 c.finish.ensures.touches

pub returns-in-Made-clause-stands : goal.returns-in-Made-clause-stands
returns-in-Made-clause-stands g c = λ is.
    let w = made_of g.D.Disk c.args.file c.args.disk.now c.args.cells.now c.args.stage c.in-Made.made c.in-Made.is is in
    c.measure.ensures.stands c.args.cells.now w.0 w.1

pub returns-in-Measured-clause-touches : goal.returns-in-Measured-clause-touches
returns-in-Measured-clause-touches g c = λ is. touches_none g.D.Disk.calls g.D.Disk.left g.D.Disk.seen g.met.D.Disk.up_to_now c.args.disk.now (λ touched. touched ≡ c.args.file)
