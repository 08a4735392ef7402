use Rattle.std.proofs.Common.{◌≡◌, Err, ap, arith, subst}
use Rattle.std.specs.Prelude.{IsTrue}
use Rattle.px_outside.specs.Disk.{Image}
use Rattle.px_file.specs.Reading.{IsFirstWrongInFile}
use Rattle.px_file.specs.declared.fault.FileFault.{FileFault}
use Rattle.px_file.specs.declared.fault.FileFault.TheVariants as file
use Rattle.px_gatelog.specs.declared.fault.StartFault.TheVariants.{Damaged}
use Rattle.px_files.specs.Faults.{start_fault}
use Rattle.px_files.proofs.open.open_one.Goals as goal

damaged_from : (f : FileFault) (at place : Rattle.std.specs.Prelude.ℕ) → start_fault f ≡ Damaged at place → f ≡ file.Damaged at place
damaged_from file.ReadFault at place e = cc
damaged_from (file.Damaged a p) at place e = cc
damaged_from file.Memory at place e = cc

pub returns-in-Ok-clause-faults : goal.returns-in-Ok-clause-faults
returns-in-Ok-clause-faults g c = omega (arith, c.sync.ensures.counted.faults_later, c.open.ensures.faults)

pub returns-in-Err-clause-faults : goal.returns-in-Err-clause-faults
returns-in-Err-clause-faults g c = omega (arith, c.sync.ensures.counted.faults_later, c.open.ensures.faults)

pub returns-in-Err-clause-damaged : goal.returns-in-Err-clause-damaged
returns-in-Err-clause-damaged g c = λ at place e.
    let told : c.fault_of.result ≡ Damaged at place = cc in
    let same : start_fault c.in-Err.fault ≡ Damaged at place = (let z = c.fault_of.ensures in cc) in
    let w = c.in-Err.ensures.damaged at place (ap Err (damaged_from c.in-Err.fault at place same)) in
    (w.0, λ tells. subst (λ (s : Image). IsFirstWrongInFile (s c.args.file) place) c.sync.ensures.seen (w.1 tells))
