use Rattle.std.proofs.Common.{◌≡◌, ap, length, sym, ◌∙◌}
use Rattle.px_outside.specs.Disk.{Image}
use Rattle.px_flushing.proofs.Stages.{made_quiet, quiet_touches}
use Rattle.px_flushing.proofs.stage.measure.Goals as goal

pub returns-in-Ok-clause-stands : goal.returns-in-Ok-clause-stands
returns-in-Ok-clause-stands g c = λ cells is made. (
  is,
  made_quiet g.D.Disk c.args.disk.now c.len.new.self c.args.made cells c.len.ensures.crash c.len.ensures.seen made,
  λ tells. c.in-Ok.ensures.length tells ∙ ap (λ (s : Image). length (s c.args.file)) (sym c.len.ensures.seen),
)

pub returns-in-Ok-clause-touches : goal.returns-in-Ok-clause-touches
returns-in-Ok-clause-touches g c = quiet_touches g.D.Disk c.args.disk.now c.len.new.self c.len.ensures.crash c.len.ensures.seen (λ touched. touched ≡ c.args.file)

pub returns-in-Err-clause-stands : goal.returns-in-Err-clause-stands
returns-in-Err-clause-stands g c = λ cells is made. (is, made_quiet g.D.Disk c.args.disk.now c.len.new.self c.args.made cells c.len.ensures.crash c.len.ensures.seen made)

pub returns-in-Err-clause-touches : goal.returns-in-Err-clause-touches
returns-in-Err-clause-touches g c = quiet_touches g.D.Disk c.args.disk.now c.len.new.self c.len.ensures.crash c.len.ensures.seen (λ touched. touched ≡ c.args.file)
