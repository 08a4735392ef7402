use Rattle.std.proofs.Common.{◌≡◌, Err, ap}
use Rattle.px_file.specs.declared.fault.FileFault.{FileFault}
use Rattle.px_file.specs.declared.fault.FileFault.TheVariants.{Damaged, ReadFault}
use Rattle.px_file.proofs.Walking.{walk_none}
use Rattle.px_file.proofs.open.read_index.Goals as goal

pub returns-clause-read : goal.returns-clause-read
returns-clause-read g c = λ begins. c.in-Ok.ensures.read (walk_none g.D.Disk c.args.file c.new-walk.result c.args.disk.now c.new-walk.ensures.index c.new-walk.ensures.before c.new-walk.ensures.more begins)

pub returns-in-Err-clause-wrong : goal.returns-in-Err-clause-wrong
returns-in-Err-clause-wrong g c = λ at place begins e. (
    let same : c.in-Err.fault ≡ Damaged at place = cc in
    c.in-Err.ensures.wrong at place (walk_none g.D.Disk c.args.file c.new-walk.result c.args.disk.now c.new-walk.ensures.index c.new-walk.ensures.before c.new-walk.ensures.more begins) (ap (λ (f : FileFault). Err f) same))

pub returns-in-Err-clause-failed : goal.returns-in-Err-clause-failed
returns-in-Err-clause-failed g c = λ e. (let same : c.in-Err.fault ≡ ReadFault = cc in c.in-Err.ensures.failed (ap (λ (f : FileFault). Err f) same))
