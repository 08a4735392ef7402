use Rattle.std.proofs.Common.{rules, ◌≡◌, ℕ, List, map, ap, ◌∙◌, subst, sym}
use Rattle.std.specs.Prelude.{IsPermutation, sum_by}
use Rattle.px_outside.specs.OnDisk.{Passes}
use Rattle.px_outside.specs.Parts.{AreDistinct}
use Rattle.px_recovery.specs.Folder.{region_numbers}
use Rattle.px_folder.specs.Calls.{AreOpenedBy}
use Rattle.px_folder.specs.Damage.{IsDamagedIn, in_region}
use Rattle.px_folder.specs.Drawn.{AreDrawn, same_number}
use Rattle.px_folder.specs.Read.{number_of_open_region}
use Rattle.px_folder.proofs.Calls.{opened_permuted}
use Rattle.px_folder.proofs.Found.{once_mapped}
use Rattle.px_folder.proofs.Once.{once_permuted}
use Rattle.px_folder.proofs.Reading.{ok_then}
use Rattle.px_folder.proofs.folder.read_regions.Goals as goal

pub returns-clause-once : goal.returns-clause-once
returns-clause-once g c =
    let drawn : AreDrawn c.args.standing.now = search rules in
    let sorted = c.sort.new.self.items in
    let moved : IsPermutation (region_numbers c.args.standing.now) sorted = subst (λ (l : List ℕ). IsPermutation l sorted) c.in_ok-numbers.ensures c.in_ok-sort.ensures.permutation in
    let once = once_permuted (region_numbers c.args.standing.now) sorted moved drawn.once in
    ok_then (λ rs. map number_of_open_region rs.items ≡ c.deref-2.result.now) (λ rs. AreDistinct number_of_open_region rs.items) (λ rs are. once_mapped rs.items (subst (λ (l : List ℕ). AreDistinct same_number l) (sym (are ∙ c.deref-2.ensures.value)) once)) c.open_regions.result c.open_regions.ensures.numbers

pub returns-clause-damaged : goal.returns-clause-damaged
returns-clause-damaged g c = λ file place is tells.
    let drawn : AreDrawn c.args.standing.now = search rules in
    let sorted = c.sort.new.self.items in
    let moved : IsPermutation (region_numbers c.args.standing.now) sorted = subst (λ (l : List ℕ). IsPermutation l sorted) c.in_ok-numbers.ensures c.in_ok-sort.ensures.permutation in
    in_region drawn sorted moved c.in_ok-sort.ensures.sorted (subst (λ (l : List ℕ). IsDamagedIn l (g.D.Disk.seen c.args.disk.now) file place) c.deref-2.ensures.value (c.open_regions.ensures.damaged file place is tells))

pub returns-clause-opened_by : goal.returns-clause-opened_by
returns-clause-opened_by g c = λ calls tells all.
    let sorted = c.sort.new.self.items in
    let moved : IsPermutation (region_numbers c.args.standing.now) sorted = subst (λ (l : List ℕ). IsPermutation l sorted) c.in_ok-numbers.ensures c.in_ok-sort.ensures.permutation in
    let there = opened_permuted (g.D.Disk.seen c.args.disk.now) (region_numbers c.args.standing.now) sorted calls moved all in
    let opened = c.open_regions.ensures.opened_by calls tells (subst (λ (l : List ℕ). AreOpenedBy (g.D.Disk.seen c.args.disk.now) l calls) (sym c.deref-2.ensures.value) there.0) in
    ok_then _ _ (λ rs passes. subst (λ (n : ℕ). Passes g.D.Disk c.args.disk.now c.open_regions.new.disk n) (ap (sum_by calls) c.deref-2.ensures.value ∙ there.1) passes) c.open_regions.result opened
