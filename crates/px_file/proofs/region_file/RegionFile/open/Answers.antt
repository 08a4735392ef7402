use Rattle.std.proofs.Common.{◌≡◌, Err, take, subst, ap, ◌∙◌}
use Rattle.std.specs.Prelude.{IsTrue}
use Rattle.px_outside.specs.Disk.{Image}
use Rattle.px_outside.proofs.Moments.{only_stays}
use Rattle.px_file.specs.Reading.{IsFirstWrongInFile}
use Rattle.px_file.specs.Reading.IsFirstWrongInFile.{in_letters}
use Rattle.px_file.specs.declared.fault.FileFault.{FileFault}
use Rattle.px_file.specs.declared.fault.FileFault.TheVariants.{Damaged}
use Rattle.px_file.proofs.region_file.RegionFile.open.Goals as goal

pub returns-in-Err-clause-damaged : goal.returns-in-Err-clause-damaged
returns-in-Err-clause-damaged g c = λ at place e. (
    let same : c.in-Err.fault ≡ Damaged at place = cc in
    let w = c.in-Err.ensures.wrong at place (ap (λ (f : FileFault). Err f) same) in
    (w.0, λ tells. in_letters (w.1 tells)))

pub returns-in-Ok-read_index-clause-opened : goal.returns-in-Ok-read_index-clause-opened
returns-in-Ok-read_index-clause-opened g c = λ only.
    c.finish.ensures.opened (c.in-Ok-read_index.ensures.read (λ tells. ap (λ (s : Image). take 8 (s c.args.file)) c.read_letters.ensures.seen ∙ c.in-Ok.ensures.right tells))
    (only_stays g.D.Disk.calls g.D.Disk.left g.D.Disk.seen c.read_letters.new.disk c.read_index.new.disk c.args.file c.read_index.ensures.quiet c.read_index.ensures.seen
    (only_stays g.D.Disk.calls g.D.Disk.left g.D.Disk.seen c.args.disk.now c.read_letters.new.disk c.args.file c.read_letters.ensures.quiet c.read_letters.ensures.seen only))

pub returns-in-Ok-read_index-clause-damaged : goal.returns-in-Ok-read_index-clause-damaged
returns-in-Ok-read_index-clause-damaged g c = λ at place e.
    subst (λ (s : Image). (at ≡ c.args.file) × (IsTrue g.D.Disk.tells → IsFirstWrongInFile (s c.args.file) place)) (c.read_index.ensures.seen ∙ c.read_letters.ensures.seen)
    (c.finish.ensures.damaged at place (c.in-Ok-read_index.ensures.read (λ tells. ap (λ (s : Image). take 8 (s c.args.file)) c.read_letters.ensures.seen ∙ c.in-Ok.ensures.right tells)) e)

pub returns-in-Err-read_index-clause-damaged : goal.returns-in-Err-read_index-clause-damaged
returns-in-Err-read_index-clause-damaged g c = λ at place e. (
    let same : c.in-Err-read_index.fault ≡ Damaged at place = cc in
    subst (λ (s : Image). (at ≡ c.args.file) × (IsTrue g.D.Disk.tells → IsFirstWrongInFile (s c.args.file) place)) c.read_letters.ensures.seen
    (c.in-Err-read_index.ensures.wrong at place (λ tells. ap (λ (s : Image). take 8 (s c.args.file)) c.read_letters.ensures.seen ∙ c.in-Ok.ensures.right tells) (ap (λ (f : FileFault). Err f) same)))
