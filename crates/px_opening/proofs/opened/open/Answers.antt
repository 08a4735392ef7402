use Rattle.std.proofs.Common.{◌≡◌, inl, subst, sym, rules}
use Rattle.std.proofs.lemmas.List.Sorted.{All-permutation}
use Rattle.std.specs.List.{All}
use Rattle.std.specs.Prelude.{◌+◌, sum_by, IsPermutation}
use Rattle.px_outside.specs.OnDisk.{Passes}
use Rattle.px_catalog.specs.Catalogue.{standing_of}
use Rattle.px_catalog.specs.declared.catalog.Catalog.{Catalog}
use Rattle.px_recovery.specs.Base.{IsSoundFolder}
use Rattle.px_recovery.specs.Folder.{AreFresh, FolderData, StandsFor, StandsOn, region_numbers}
use Rattle.px_folder.specs.Calls.{AreOpenedBy}
use Rattle.px_folder.specs.Read.{IsReadOn, PartsStandFor, folder_of}
use Rattle.px_folder.proofs.Reading.{ok_then}
use Rattle.px_opening.specs.Opened.{all_regions, folder_in}
use Rattle.px_opening.specs.declared.fault.OpenFault.TheVariants.{Damaged}
use Rattle.px_opening.specs.declared.opened.Opened.{Opened}
use Rattle.px_opening.specs.inner.Faults.{of_start}
use Rattle.px_opening.proofs.Building.{damaged_below, ok_with}
use Rattle.px_opening.proofs.opened.open.Goals as goal

pub returns-in_err-catalog-clause-damaged : goal.returns-in_err-catalog-clause-damaged
returns-in_err-catalog-clause-damaged g c = λ file place is tells.
    let o : of_start c.in_err-catalog.field-0.0 ≡ Damaged file place = search rules in
    let s = damaged_below c.in_err-catalog.field-0.0 file place o in
    inl (c.in_err-catalog.ensures.damaged file place (search rules) tells)

pub returns-clause-stood : goal.returns-clause-stood
returns-clause-stood g c = λ tells.
    let d = g.D.Disk in
    let old = c.args.disk.now in
    let seen = d.seen old in
    let w = c.in_ok-catalog.field-0 in
    ok_then (λ (o : Opened). folder_in o ≡ folder_of w) (λ (o : Opened). PartsStandFor seen (folder_in o))
    (λ o q. subst (λ (f : FolderData). PartsStandFor seen f) (sym q) (c.in_ok-catalog.ensures.stood tells)) c.assembled.result c.assembled.ensures.folder

pub returns-clause-sound : goal.returns-clause-sound
returns-clause-sound g c = λ tells sound.
    let d = g.D.Disk in
    let old = c.args.disk.now in
    let seen = d.seen old in
    let w = c.in_ok-catalog.field-0 in
    let z = c.in_ok-catalog.ensures.sound tells sound in
    ok_then (λ (o : Opened). folder_in o ≡ folder_of w) (λ (o : Opened). StandsFor seen (folder_in o) × IsSoundFolder (folder_in o))
    (λ o q. (subst (λ (f : FolderData). StandsFor seen f) (sym q) z.0, subst IsSoundFolder (sym q) z.1)) c.assembled.result c.assembled.ensures.folder

pub returns-clause-stands : goal.returns-clause-stands
returns-clause-stands g c = λ tells.
    let d = g.D.Disk in
    let old = c.args.disk.now in
    let seen = d.seen old in
    let w = c.in_ok-catalog.field-0 in
    let new = c.read.new.disk in
    ok_with (λ (o : Opened). o.catalog ≡ w.catalog) (λ (o : Opened). folder_in o ≡ folder_of w) (λ (o : Opened). AreFresh d old (standing_of o.catalog).next → StandsOn d new (folder_in o))
    (λ o p q fresh. subst (λ (f : FolderData). StandsOn d new f) (sym q) (c.in_ok-catalog.ensures.stands tells (subst (λ (k : Catalog). AreFresh d old (standing_of k).next) p fresh))) c.assembled.result c.assembled.ensures.catalogue c.assembled.ensures.folder

pub returns-clause-read : goal.returns-clause-read
returns-clause-read g c = λ tells.
    let d = g.D.Disk in
    let old = c.args.disk.now in
    let seen = d.seen old in
    let w = c.in_ok-catalog.field-0 in
    let new = c.read.new.disk in
    let rs = w.regions.items in
    ok_then (λ (o : Opened). IsPermutation rs (all_regions o)) (λ (o : Opened). All (IsReadOn d old new) (all_regions o)) (λ o moved. All-permutation (IsReadOn d old new) rs (all_regions o) moved (c.in_ok-catalog.ensures.read tells)) c.assembled.result c.assembled.ensures.moved

pub returns-clause-opened_by : goal.returns-clause-opened_by
returns-clause-opened_by g c = λ calls tells.
    let w = c.in_ok-catalog.field-0 in
    let seen = g.D.Disk.seen c.args.disk.now in
    ok_then (λ (o : Opened). o.catalog ≡ w.catalog)
    (λ (o : Opened). AreOpenedBy seen (region_numbers (standing_of o.catalog)) calls → Passes g.D.Disk c.args.disk.now c.read.new.disk (17 + sum_by calls (region_numbers (standing_of o.catalog))))
    (λ o same. subst (λ (k : Catalog). AreOpenedBy seen (region_numbers (standing_of k)) calls → Passes g.D.Disk c.args.disk.now c.read.new.disk (17 + sum_by calls (region_numbers (standing_of k)))) (sym same) (c.in_ok-catalog.ensures.opened_by calls tells))
    c.assembled.result c.assembled.ensures.catalogue
