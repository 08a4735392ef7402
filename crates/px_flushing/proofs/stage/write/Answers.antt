use Rattle.std.proofs.Common.{◌≡◌, Err, Ok, ap, sym, ◌∙◌}
use Rattle.px_making.specs.declared.making.MakeStep.TheVariants as make
use Rattle.px_flushing.specs.declared.fault.FlushFault.TheVariants.{Damaged, ReadFault, WriteFault}
use Rattle.px_flushing.proofs.Stages.{make_damaged, make_read, make_write}
use Rattle.px_flushing.proofs.stage.write.Goals as goal

pub returns-in-Err-clause-read_failed : goal.returns-in-Err-clause-read_failed
returns-in-Err-clause-read_failed g c = λ e. (let same : c.of_make.result ≡ ReadFault = cc in make_read c.in-Err.fault (sym c.of_make.ensures ∙ same))

pub returns-in-Err-clause-write_failed : goal.returns-in-Err-clause-write_failed
returns-in-Err-clause-write_failed g c = λ e.
    let same : c.of_make.result ≡ WriteFault = cc in
    c.in-Err.ensures.failed (ap Err (make_write c.in-Err.fault (sym c.of_make.ensures ∙ same)))

pub returns-in-Err-clause-sound : goal.returns-in-Err-clause-sound
returns-in-Err-clause-sound g c = λ e. (let same : c.of_make.result ≡ Damaged = cc in make_damaged c.in-Err.fault (sym c.of_make.ensures ∙ same))

pub returns-in-Ok-More-clause-stands : goal.returns-in-Ok-More-clause-stands
returns-in-Ok-More-clause-stands g c = λ file is making. (c.step.ensures.file ∙ is, c.in-Ok-More.ensures.done making)

pub returns-in-Ok-Done-clause-stands : goal.returns-in-Ok-Done-clause-stands
returns-in-Ok-Done-clause-stands g c = λ file is making. (let e : c.step.result ≡ Ok make.Done = cc in (c.step.ensures.file ∙ is, c.step.ensures.all making e))
