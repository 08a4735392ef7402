-- The regions of the indexes that stand.
use Rattle.std.proofs.Common.{◌≡◌, inl, inr, ℕ, Bool, true, false, ◌||◌, Some, List, [], ◌∷◌, map, refl, sym, ap, ◌∙◌}
use Rattle.std.specs.Prelude.{if◌then◌else◌, nat_eq, ◌==◌}
use Rattle.std.specs.List.{list_any}
use Rattle.std.proofs.lemmas.Bool.{cases_eq, eq-eqb, ne_eqb}
use Rattle.px_tables.specs.declared.index.Index.{Index}
use Rattle.px_trail.proofs.Orders.{or_true}
use Rattle.px_schema.specs.declared.standing.Standing.{Standing}
use Rattle.px_recovery.specs.Folder.{IsNumberAmong}
use Rattle.px_recovery.specs.Tables.{index_in}
use Rattle.px_standing.specs.Agrees.{as_opened, opened_standing}

regions_opened : (xs : List Index) → map (λ (x : Index). x.region) (map as_opened xs) ≡ map (λ (x : Index). x.region) xs
regions_opened [] = refl
regions_opened (x ∷ xs) = ap (λ l. x.region ∷ l) (regions_opened xs)

-- those on the disk and those that a run has have the same
pub same_regions : (stored standing : Standing) → opened_standing stored ≡ opened_standing standing → map (λ (x : Index). x.region) stored.indexes ≡ map (λ (x : Index). x.region) standing.indexes
same_regions stored standing same = sym (regions_opened stored.indexes) ∙ (ap (λ (s : Standing). map (λ (x : Index). x.region) s.indexes) same ∙ regions_opened standing.indexes)

-- ---- an index that stands

if_is : {A : Type 0} (v : Bool) (a c : A) → v ≡ true → (if v then a else c) ≡ a
if_is true a c h = refl
if_is false a c h = absurd cc

if_other : {A : Type 0} (v : Bool) (a c : A) → v ≡ false → (if v then a else c) ≡ c
if_other true a c h = absurd cc
if_other false a c h = refl

pub region_found : (xs : List Index) (n : ℕ) (z : Index) → index_in xs n ≡ Some z → IsNumberAmong z.region (map (λ (x : Index). x.region) xs)
unfolding index_in
region_found [] n z found = absurd cc
region_found (x ∷ xs) n z found = elim (cases_eq x.id.0 n) [
  | inl e ↦
      (let one : Some x ≡ Some z = sym (if_is (x.id.0 == n) (Some x) (index_in xs n) (eq-eqb x.id.0 n e)) ∙ found in
      let is : x ≡ z = cc in
      ap (λ v. v || list_any (λ m. nat_eq m z.region) (map (λ (y : Index). y.region) xs)) (eq-eqb x.region z.region (ap (λ (y : Index). y.region) is)))
  | inr e ↦
      or_true (nat_eq x.region z.region) (list_any (λ m. nat_eq m z.region) (map (λ (y : Index). y.region) xs)) (region_found xs n z (sym (if_other (x.id.0 == n) (Some x) (index_in xs n) (ne_eqb x.id.0 n e)) ∙ found))
]
