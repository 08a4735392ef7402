use Rattle.std.proofs.Common.{rules, ◌≡◌, ◌+◌, List, map, subst, sym}
use Rattle.std.specs.Prelude.{IsPermutation, IsTrue, sum_by}
use Rattle.px_outside.specs.OnDisk.{Passes}
use Rattle.px_region.proofs.Calls.{passes_then}
use Rattle.px_catalog.specs.Catalogue.{standing_of}
use Rattle.px_region.specs.declared.region.Region.{Region}
use Rattle.px_schema.specs.declared.standing.Standing.{Standing}
use Rattle.px_recovery.specs.Folder.{region_numbers}
use Rattle.px_recovery.proofs.Definitions.{catalogue_stays}
use Rattle.px_folder.specs.Damage.{IsDamagedBelow, below}
use Rattle.px_folder.specs.Calls.{AreOpenedBy}
use Rattle.px_folder.specs.Drawn.{AreDrawn}
use Rattle.px_folder.proofs.Calls.{opened_before}
use Rattle.px_folder.specs.Read.{number_of_open_region}
use Rattle.px_folder.proofs.Reading.{all_touches, below_before, all_drawn, catalogue_after, folder_read, folder_sound, folder_stands, folder_stood, leaves_folder}
use Rattle.px_folder.proofs.folder.Folder.read.Goals as goal

pub returns-in_err-catalog-clause-any_moment : goal.returns-in_err-catalog-clause-any_moment
returns-in_err-catalog-clause-any_moment g c = λ tells f stood on some.
    catalogue_stays g.D.Disk c.args.disk.now c.start.new.disk f on some (c.start.ensures.touches tells) (c.start.ensures.any_moment f.standing tells (stood.parts 0 tt) (on.parts 0 tt))

pub returns-in-Ok-clause-stood : goal.returns-in-Ok-clause-stood
returns-in-Ok-clause-stood g c = λ tells.
    let d = g.D.Disk in
    let old = c.args.disk.now in
    let mid = c.start.new.disk in
    let new = c.read_regions.new.disk in
    let quiet = c.read_regions.ensures.quiet in
    let same = c.read_regions.ensures.seen in
    let touches = c.start.ensures.touches tells in
    let rs = c.in-Ok.regions.items in
    let drawn = subst AreDrawn c.standing.ensures c.in-Ok.ensures.drawn in
    let moved = subst (λ (x : Standing). IsPermutation (region_numbers x) (map number_of_open_region rs)) c.standing.ensures c.in-Ok.ensures.numbers in
    let read = c.in-Ok.ensures.read tells in
    let started = c.in_ok-catalog.ensures.started tells in
    folder_stood d old mid new touches quiet same c.in_ok-catalog.catalog rs drawn moved read started.0

pub returns-in-Ok-clause-sound : goal.returns-in-Ok-clause-sound
returns-in-Ok-clause-sound g c = λ tells sound.
    let d = g.D.Disk in
    let old = c.args.disk.now in
    let mid = c.start.new.disk in
    let new = c.read_regions.new.disk in
    let quiet = c.read_regions.ensures.quiet in
    let same = c.read_regions.ensures.seen in
    let touches = c.start.ensures.touches tells in
    let rs = c.in-Ok.regions.items in
    let drawn = subst AreDrawn c.standing.ensures c.in-Ok.ensures.drawn in
    let moved = subst (λ (x : Standing). IsPermutation (region_numbers x) (map number_of_open_region rs)) c.standing.ensures c.in-Ok.ensures.numbers in
    let read = c.in-Ok.ensures.read tells in
    let started = c.in_ok-catalog.ensures.started tells in
    folder_sound d old mid new touches quiet same c.in_ok-catalog.catalog rs drawn moved read started.0 sound

pub returns-in-Ok-clause-stands : goal.returns-in-Ok-clause-stands
returns-in-Ok-clause-stands g c = λ tells.
    let d = g.D.Disk in
    let old = c.args.disk.now in
    let mid = c.start.new.disk in
    let new = c.read_regions.new.disk in
    let quiet = c.read_regions.ensures.quiet in
    let same = c.read_regions.ensures.seen in
    let touches = c.start.ensures.touches tells in
    let rs = c.in-Ok.regions.items in
    let drawn = subst AreDrawn c.standing.ensures c.in-Ok.ensures.drawn in
    let moved = subst (λ (x : Standing). IsPermutation (region_numbers x) (map number_of_open_region rs)) c.standing.ensures c.in-Ok.ensures.numbers in
    let read = c.in-Ok.ensures.read tells in
    let started = c.in_ok-catalog.ensures.started tells in
    folder_stands d old mid new touches quiet same c.in_ok-catalog.catalog rs drawn moved read started.1

pub returns-in-Ok-clause-catalogue : goal.returns-in-Ok-clause-catalogue
returns-in-Ok-clause-catalogue g c = λ tells.
    let d = g.D.Disk in
    let old = c.args.disk.now in
    let mid = c.start.new.disk in
    let new = c.read_regions.new.disk in
    let quiet = c.read_regions.ensures.quiet in
    let same = c.read_regions.ensures.seen in
    let touches = c.start.ensures.touches tells in
    let rs = c.in-Ok.regions.items in
    let drawn = subst AreDrawn c.standing.ensures c.in-Ok.ensures.drawn in
    let moved = subst (λ (x : Standing). IsPermutation (region_numbers x) (map number_of_open_region rs)) c.standing.ensures c.in-Ok.ensures.numbers in
    let read = c.in-Ok.ensures.read tells in
    let started = c.in_ok-catalog.ensures.started tells in
    catalogue_after d old mid new touches quiet same c.in_ok-catalog.catalog started.1

pub returns-in-Ok-clause-read : goal.returns-in-Ok-clause-read
returns-in-Ok-clause-read g c = λ tells.
    let d = g.D.Disk in
    let old = c.args.disk.now in
    let mid = c.start.new.disk in
    let new = c.read_regions.new.disk in
    let quiet = c.read_regions.ensures.quiet in
    let same = c.read_regions.ensures.seen in
    let touches = c.start.ensures.touches tells in
    let rs = c.in-Ok.regions.items in
    let drawn = subst AreDrawn c.standing.ensures c.in-Ok.ensures.drawn in
    let moved = subst (λ (x : Standing). IsPermutation (region_numbers x) (map number_of_open_region rs)) c.standing.ensures c.in-Ok.ensures.numbers in
    let read = c.in-Ok.ensures.read tells in
    let started = c.in_ok-catalog.ensures.started tells in
    folder_read d old mid new touches quiet same c.in_ok-catalog.catalog rs drawn moved read

pub returns-in-Ok-clause-any_moment : goal.returns-in-Ok-clause-any_moment
returns-in-Ok-clause-any_moment g c = λ tells f stood on some.
    let d = g.D.Disk in
    let old = c.args.disk.now in
    let mid = c.start.new.disk in
    let new = c.read_regions.new.disk in
    let quiet = c.read_regions.ensures.quiet in
    let same = c.read_regions.ensures.seen in
    leaves_folder d old mid new (c.start.ensures.touches tells) quiet same f on some (c.start.ensures.any_moment f.standing tells (stood.parts 0 tt) (on.parts 0 tt))

pub returns-in-Ok-clause-touches : goal.returns-in-Ok-clause-touches
returns-in-Ok-clause-touches g c = λ tells.
    let d = g.D.Disk in
    let old = c.args.disk.now in
    let mid = c.start.new.disk in
    let new = c.read_regions.new.disk in
    let quiet = c.read_regions.ensures.quiet in
    let same = c.read_regions.ensures.seen in
    all_touches d old mid new (c.start.ensures.touches tells) quiet same

pub returns-in-Ok-clause-opened_by : goal.returns-in-Ok-clause-opened_by
returns-in-Ok-clause-opened_by g c = λ calls tells all.
    let d = g.D.Disk in
    let old = c.args.disk.now in
    let mid = c.start.new.disk in
    let standing = standing_of c.in_ok-catalog.catalog in
    let same : c.standing.result.now ≡ standing = c.standing.ensures in
    let drawn = all_drawn standing (subst AreDrawn same c.in-Ok.ensures.drawn) in
    let here = opened_before d old mid standing.next (region_numbers standing) calls (c.start.ensures.touches tells) drawn all in
    let passes = c.in-Ok.ensures.opened_by calls tells (subst (λ (s : Standing). AreOpenedBy (d.seen mid) (region_numbers s) calls) (sym same) here) in
    subst (λ (s : Standing). Passes d old c.read_regions.new.disk (17 + sum_by calls (region_numbers s))) same (passes_then d old mid c.read_regions.new.disk 17 _ c.start.ensures.counts passes)

pub returns-in-Err-clause-any_moment : goal.returns-in-Err-clause-any_moment
returns-in-Err-clause-any_moment g c = λ tells f stood on some.
    let d = g.D.Disk in
    let old = c.args.disk.now in
    let mid = c.start.new.disk in
    let new = c.read_regions.new.disk in
    let quiet = c.read_regions.ensures.quiet in
    let same = c.read_regions.ensures.seen in
    leaves_folder d old mid new (c.start.ensures.touches tells) quiet same f on some (c.start.ensures.any_moment f.standing tells (stood.parts 0 tt) (on.parts 0 tt))

pub returns-in-Err-clause-touches : goal.returns-in-Err-clause-touches
returns-in-Err-clause-touches g c = λ tells.
    let d = g.D.Disk in
    let old = c.args.disk.now in
    let mid = c.start.new.disk in
    let new = c.read_regions.new.disk in
    let quiet = c.read_regions.ensures.quiet in
    let same = c.read_regions.ensures.seen in
    all_touches d old mid new (c.start.ensures.touches tells) quiet same

pub returns-in-Err-clause-damaged : goal.returns-in-Err-clause-damaged
returns-in-Err-clause-damaged g c = λ file place is tells.
    let d = g.D.Disk in
    let old = c.args.disk.now in
    let mid = c.start.new.disk in
    let new = c.read_regions.new.disk in
    let quiet = c.read_regions.ensures.quiet in
    let same = c.read_regions.ensures.seen in
    let started = c.in_ok-catalog.ensures.started tells in
    let damaged = subst (λ (x : Standing). IsDamagedBelow x (d.seen mid) file place) c.standing.ensures (c.in-Err.ensures.damaged file place (search rules) tells) in
    below c.in_ok-catalog.catalog.standing started.0 (below_before d old mid new (c.start.ensures.touches tells) quiet same c.in_ok-catalog.catalog.standing file place damaged)
