-- How many calls of the disk it takes to open regions.
use Rattle.std.proofs.Common.{◌≡◌, ◌≤◌, ◌<◌, ◌+◌, ℕ, List, [], ◌∷◌, ◌++◌, length, take, get_or, refl, sym, ap, subst, ◌∙◌, arith}
use Rattle.std.specs.Prelude.{IsPermutation, sum_by}
use Rattle.std.specs.List.{All, AllByRecursion}
use Rattle.std.proofs.lemmas.List.{take_more}
use Rattle.std.proofs.lemmas.List.Elements.{All-from_recursion, recursion_from_All}
use Rattle.std.proofs.lemmas.List.Sorted.{All-permutation, sum_by-IsPermutation}
use Rattle.std.proofs.lemmas.List.Sums.{sum_by_push}
use Rattle.px_outside.specs.Disk.{Image}
use Rattle.px_outside.specs.OnDisk.{Passes, TouchesOnly}
use Rattle.px_outside.specs.declared.disk.Disk.{Ghosts}
use Rattle.px_catalog.specs.Catalogue.{catalogue_files}
use Rattle.px_region.specs.Calls.{IsOpenedBy}
use Rattle.px_region.proofs.Calls.{passes_most, passes_then}
use Rattle.px_wal.specs.Files.{HasFile}
use Rattle.px_folder.specs.Calls.{AreOpenedBy}
use Rattle.px_folder.specs.Drawn.{IsRegionDrawn}
use Rattle.px_folder.proofs.Local.{opened_local}
use Rattle.px_folder.proofs.Reading.{apart}

pub passes_none : {D : Type 0} (d : Ghosts D) (x : D) → Passes d x x 0
passes_none d x = record { later = omega arith; at_most = omega arith; faults_later = omega arith; begun = refl }

-- those before one, and that one
cut : (P : ℕ → Type 0) (a : List ℕ) (n : ℕ) → AllByRecursion P (a ++ n ∷ []) → AllByRecursion P a × P n
cut P [] n all = (tt, all.0)
cut P (m ∷ a) n all = (let c = cut P a n all.1 in ((all.0, c.0), c.1))

-- one region more
pub opened_more : {D : Type 0} (d : Ghosts D) (old mid new : D) (numbers : List ℕ) (i : ℕ) (calls : ℕ → ℕ) → i < length numbers → AreOpenedBy (d.seen old) (take (i + 1) numbers) calls → d.seen mid ≡ d.seen old
    → (AreOpenedBy (d.seen old) (take i numbers) calls → Passes d old mid (sum_by calls (take i numbers))) → (IsOpenedBy (get_or numbers i 0) (d.seen mid) (calls (get_or numbers i 0)) → Passes d mid new (calls (get_or numbers i 0)))
    → Passes d old new (sum_by calls (take (i + 1) numbers))
opened_more d old mid new numbers i calls lt all same first next =
    let n = get_or numbers i 0 in
    let P : ℕ → Type 0 = λ k. IsOpenedBy k (d.seen old) (calls k) in
    let e : take (i + 1) numbers ≡ take i numbers ++ n ∷ [] = take_more numbers i 0 lt in
    let parts = cut P (take i numbers) n (subst (AllByRecursion P) e (recursion_from_All P (take (i + 1) numbers) all)) in
    let here = next (subst (λ (image : Image). IsOpenedBy n image (calls n)) (sym same) parts.1) in
    let sum : sum_by calls (take (i + 1) numbers) ≡ sum_by calls (take i numbers) + calls n = ap (sum_by calls) e ∙ sum_by_push calls (take i numbers) n in
    subst (λ (k : ℕ). Passes d old new k) (sym sum) (passes_then d old mid new (sum_by calls (take i numbers)) (calls n) (first (All-from_recursion P (take i numbers) parts.0)) here)

-- in another order
pub opened_permuted : (image : Image) (numbers moved : List ℕ) (calls : ℕ → ℕ) → IsPermutation numbers moved → AreOpenedBy image numbers calls → AreOpenedBy image moved calls × (sum_by calls moved ≡ sum_by calls numbers)
opened_permuted image numbers moved calls is all = (All-permutation (λ n. IsOpenedBy n image (calls n)) numbers moved is all, sum_by-IsPermutation calls numbers moved is)

-- the regions were there before the catalogue was made
pub opened_before : {D : Type 0} (d : Ghosts D) (old mid : D) (next : ℕ) (numbers : List ℕ) (calls : ℕ → ℕ) → TouchesOnly d old mid catalogue_files → All (IsRegionDrawn next) numbers → AreOpenedBy (d.seen old) numbers calls → AreOpenedBy (d.seen mid) numbers calls
opened_before d old mid next numbers calls touches drawn all =
    All-from_recursion (λ n. IsOpenedBy n (d.seen mid) (calls n)) numbers (each numbers (recursion_from_All (IsRegionDrawn next) numbers drawn) (recursion_from_All (λ n. IsOpenedBy n (d.seen old) (calls n)) numbers all))
  where
    each : (ns : List ℕ) → AllByRecursion (IsRegionDrawn next) ns → AllByRecursion (λ n. IsOpenedBy n (d.seen old) (calls n)) ns → AllByRecursion (λ n. IsOpenedBy n (d.seen mid) (calls n)) ns
    each [] one two = tt
    each (n ∷ ns) one two =
        (opened_local n (d.seen old) (d.seen mid) (λ file own. sym (touches.sees file (λ its. apart d n file one.0.some own its))) (calls n) two.0, each ns one.1 two.1)
