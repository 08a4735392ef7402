use Rattle.std.proofs.Common.{◌≡◌, Err, ap, sym, ◌∙◌}
use Rattle.px_flushing.specs.declared.fault.FlushFault.TheVariants.{Damaged, ReadFault, WriteFault}
use Rattle.px_flushing.proofs.Stages.{make_damaged, make_read, make_write}
use Rattle.px_flushing.proofs.stage.finish.Goals as goal

pub returns-in-Err-clause-read_failed : goal.returns-in-Err-clause-read_failed
returns-in-Err-clause-read_failed g c = λ e. (let same : c.of_make.result ≡ ReadFault = cc in make_read c.in-Err.fault (sym c.of_make.ensures ∙ same))

pub returns-in-Err-clause-write_failed : goal.returns-in-Err-clause-write_failed
returns-in-Err-clause-write_failed g c = λ e.
    let same : c.of_make.result ≡ WriteFault = cc in
    c.in-Err.ensures.failed (ap Err (make_write c.in-Err.fault (sym c.of_make.ensures ∙ same)))

pub returns-in-Err-clause-sound : goal.returns-in-Err-clause-sound
returns-in-Err-clause-sound g c = λ e. (let same : c.of_make.result ≡ Damaged = cc in make_damaged c.in-Err.fault (sym c.of_make.ensures ∙ same))

pub returns-in-Ok-clause-stands : goal.returns-in-Ok-clause-stands
returns-in-Ok-clause-stands g c = λ file cells is has. (c.in-Ok.ensures.file ∙ is, c.in-Ok.ensures.done cells has)
