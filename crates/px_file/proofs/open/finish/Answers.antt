use Rattle.std.proofs.Common.{◌≡◌, Err, ap}
use Rattle.px_file.specs.declared.fault.FileFault.{FileFault}
use Rattle.px_file.specs.declared.fault.FileFault.TheVariants.{Damaged, ReadFault}
use Rattle.px_file.proofs.Walking.{file_opened, tail_wrong}
use Rattle.px_file.proofs.open.finish.Goals as goal

pub returns-in-Ok-clause-opened : goal.returns-in-Ok-clause-opened
returns-in-Ok-clause-opened g c = λ has only. (has.blocks, file_opened g.D.Disk c.args.file c.args.index c.args.disk.now c.read_tail.new.disk has c.read_tail.ensures.seen c.read_tail.ensures.quiet only c.in-Ok.ensures.right)

pub returns-in-Err-clause-damaged : goal.returns-in-Err-clause-damaged
returns-in-Err-clause-damaged g c = λ at place has e. (
    let same : c.in-Err.fault ≡ Damaged at place = cc in
    let w = c.in-Err.ensures.wrong at place (ap (λ (f : FileFault). Err f) same) in
    (w.0, λ tells. (let i = w.1 tells in tail_wrong g.D.Disk c.args.file c.args.index c.args.disk.now place i.0 has tells i.1 i.2)))

pub returns-in-Err-clause-failed : goal.returns-in-Err-clause-failed
returns-in-Err-clause-failed g c = λ e. (let same : c.in-Err.fault ≡ ReadFault = cc in c.in-Err.ensures.failed (ap (λ (f : FileFault). Err f) same))
