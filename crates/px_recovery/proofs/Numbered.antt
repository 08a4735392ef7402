-- Numbers that differ: a region is of one table or of one index.
use Rattle.std.proofs.Common.{◌≡◌, ◌≢◌, ◌<◌, ◌≤◌, map, ◌⊎◌, inl, inr, ℕ, zero, suc, Bool, true, false, Option, Some, List, [], ◌∷◌, ◌++◌, length, get_or, refl, sym, ap, subst, ◌∙◌, arith}
use Rattle.std.specs.Prelude.{filter, if◌then◌else◌, ◌==◌}
use Rattle.std.specs.List.{AllByRecursion}
use Rattle.std.proofs.lemmas.Bool.{eqb-true}
use Rattle.px_outside.specs.Parts.{AreDistinct, HasNone}
use Rattle.px_tables.specs.declared.index.Index.{Index}
use Rattle.px_tables.specs.declared.table.Table.{Table}
use Rattle.px_tables.specs.declared.table.TableRegion.{TableRegion}
use Rattle.px_schema.specs.Stands.{index_draws, table_draws}
use Rattle.px_schema.specs.declared.standing.Standing.{Standing}
use Rattle.px_recovery.specs.Folder.{FolderData}
use Rattle.px_recovery.specs.Stands.{AreNumbered}
use Rattle.px_recovery.specs.Tables.{IsRegionAmong, index_in, indexes_of, number_of_index, number_of_region, region_of_index, table_in}
use Rattle.px_recovery.proofs.Lookups.{index_first, index_later}
use Rattle.px_recovery.proofs.Tables.{IsForeign, none_place, one_place}

-- ---- a table that is found

pub found_by : (y x : Table) (rest : Option Table) (c : Bool) → (if c then Some y else rest) ≡ Some x → ((c ≡ true) × (y ≡ x)) ⊎ ((c ≡ false) × (rest ≡ Some x))
found_by y x rest true is = inl (refl, some_is y x is)
  where
    some_is : (a z : Table) → Some a ≡ Some z → a ≡ z
    some_is a z e = cc
found_by y x rest false is = inr (refl, is)

pub found_number : (ts : List Table) (t : ℕ) (x : Table) → table_in ts t ≡ Some x → x.id.0 ≡ t
unfolding table_in
found_number [] t x is = absurd cc
found_number (y ∷ ts) t x is = elim (found_by y x (table_in ts t) (y.id.0 == t) is) [
  | inl e ↦ ap (λ (z : Table). z.id.0) (sym e.1) ∙ eqb-true y.id.0 t e.0
  | inr e ↦ found_number ts t x e.1
]

pub one_found : (ts : List Table) (t : ℕ) (x y : Table) → table_in ts t ≡ Some x → table_in ts t ≡ Some y → x ≡ y
one_found ts t x y a z = let e : Some x ≡ Some y = sym a ∙ z in cc

pub all_found : (P : Table → Type 0) (ts : List Table) (t : ℕ) (x : Table) → AllByRecursion P ts → table_in ts t ≡ Some x → P x
unfolding table_in
all_found P [] t x all is = absurd cc
all_found P (y ∷ ts) t x all is = elim (found_by y x (table_in ts t) (y.id.0 == t) is) [
  | inl e ↦ subst P e.1 all.0
  | inr e ↦ all_found P ts t x all.1 e.1
]

-- ---- regions

one_drawn : (P : ℕ → Type 0) (n : ℕ) (gs : List TableRegion) (rest : List ℕ) → IsRegionAmong n gs → AllByRecursion P (map (λ (g : TableRegion). g.number) gs ++ rest) → P n
one_drawn P n [] rest one all = absurd one
one_drawn P n (g ∷ gs) rest (inl is) all = subst P is all.0
one_drawn P n (g ∷ gs) rest (inr one) all = one_drawn P n gs rest one all.1

one_some : (P : ℕ → Type 0) (n : ℕ) (gs : List TableRegion) → IsRegionAmong n gs → AllByRecursion (λ (g : TableRegion). P g.number) gs → P n
one_some P n [] one all = absurd one
one_some P n (g ∷ gs) (inl is) all = subst P is all.0
one_some P n (g ∷ gs) (inr one) all = one_some P n gs one all.1

if_all : (P : Index → Type 0) (i : Index) (rest : List Index) (c : Bool) → P i → AllByRecursion P rest → AllByRecursion P (if c then i ∷ rest else rest)
if_all P i rest true here all = (here, all)
if_all P i rest false here all = all

all_filter : (P : Index → Type 0) (keep : Index → Bool) (is : List Index) → AllByRecursion P is → AllByRecursion P (filter keep is)
all_filter P keep [] all = tt
all_filter P keep (i ∷ is) all = if_all P i (filter keep is) (keep i) all.0 (all_filter P keep is all.1)

all_place : (P : Index → Type 0) (is : List Index) (k : ℕ) (none : Index) → k < length is → AllByRecursion P is → P (get_or is k none)
all_place P [] k none lt all = absurd (omega arith)
all_place P (i ∷ is) zero none lt all = all.0
all_place P (i ∷ is) (suc k) none lt all = all_place P is k none (omega arith) all.1

-- the region of a table's rows, and of an index that stands, has a number that was drawn
pub rows_number : (s : Standing) → AreNumbered s → (t n : ℕ) (x : Table) → table_in s.tables t ≡ Some x → IsRegionAmong n x.regions → (1 ≤ n) × (n < s.next)
rows_number s numbered t n x found one = (
  one_some (λ k. 1 ≤ k) n x.regions one (all_found (λ y. AllByRecursion (λ g. 1 ≤ g.number) y.regions) s.tables t x numbered.some found),
  one_drawn (λ k. k < s.next) n x.regions (x.id.0 ∷ []) one (all_found (λ y. AllByRecursion (λ k. k < s.next) (table_draws y)) s.tables t x numbered.below.tables found),
)

pub index_number : (s : Standing) → AreNumbered s → (t place : ℕ) (i : Index) → place < length (indexes_of t s.indexes) → get_or (indexes_of t s.indexes) place i ≡ i → (1 ≤ i.region) × (i.region < s.next)
index_number s numbered t place i there at = (
  subst (λ (y : Index). 1 ≤ y.region) at (all_place (λ y. 1 ≤ y.region) (indexes_of t s.indexes) place i there (all_filter (λ y. 1 ≤ y.region) (λ (y : Index). y.table.0 == t) s.indexes numbered.some_index)),
  subst (λ (y : Index). y.region < s.next) at (all_place (λ y. AllByRecursion (λ k. k < s.next) (index_draws y)) (indexes_of t s.indexes) place i there (all_filter (λ y. AllByRecursion (λ k. k < s.next) (index_draws y)) (λ (y : Index). y.table.0 == t) s.indexes numbered.below.indexes)).0,
)

pub none_of : (n : ℕ) (gs : List TableRegion) → (IsRegionAmong n gs → ⊥) → HasNone number_of_region n gs
none_of n [] not = tt
none_of n (g ∷ gs) not = ((λ is. not (inl is)), none_of n gs (λ one. not (inr one)))

if_none : (num : Index → ℕ) (n : ℕ) (i : Index) (rest : List Index) (c : Bool) → num i ≢ n → HasNone num n rest → HasNone num n (if c then i ∷ rest else rest)
if_none num n i rest true other none = (other, none)
if_none num n i rest false other none = none

pub none_filter : (num : Index → ℕ) (n : ℕ) (keep : Index → Bool) (is : List Index) → HasNone num n is → HasNone num n (filter keep is)
none_filter num n keep [] none = tt
none_filter num n keep (i ∷ is) none = if_none num n i (filter keep is) (keep i) none.0 (none_filter num n keep is none.1)

if_distinct : (num : Index → ℕ) (i : Index) (rest : List Index) (c : Bool) → HasNone num (num i) rest → AreDistinct num rest → AreDistinct num (if c then i ∷ rest else rest)
if_distinct num i rest true none distinct = (none, distinct)
if_distinct num i rest false none distinct = distinct

pub distinct_filter : (num : Index → ℕ) (keep : Index → Bool) (is : List Index) → AreDistinct num is → AreDistinct num (filter keep is)
distinct_filter num keep [] distinct = tt
distinct_filter num keep (i ∷ is) distinct = if_distinct num i (filter keep is) (keep i) (none_filter num (num i) keep is distinct.0) (distinct_filter num keep is distinct.1)

-- an index of one table has its region, and no index of another has it
abbrev first_if : Index → Bool → List Index → List Index
first_if i c l = if c then i ∷ l else l

others_by : (i : Index) (is : List Index) (t q : ℕ) (none : Index) → HasNone region_of_index i.region is → q ≢ t → ((k : ℕ) → k < length (indexes_of t is) → HasNone region_of_index (get_or (indexes_of t is) k none).region (indexes_of q is))
    → (c : Bool) → (i.table.0 == t) ≡ c → (e : Bool) → (i.table.0 == q) ≡ e → (k : ℕ) → k < length (first_if i c (indexes_of t is)) → HasNone region_of_index (get_or (first_if i c (indexes_of t is)) k none).region (first_if i e (indexes_of q is))
others_by i is t q none apart other rest true one true two k lt = absurd (other (sym (eqb-true i.table.0 q two) ∙ eqb-true i.table.0 t one))
others_by i is t q none apart other rest true one false two zero lt = none_filter region_of_index i.region (λ (y : Index). y.table.0 == q) is apart
others_by i is t q none apart other rest true one false two (suc k) lt = rest k (omega arith)
others_by i is t q none apart other rest false one true two k lt =
    ((λ same. none_place region_of_index (indexes_of t is) k i.region none (none_filter region_of_index i.region (λ (y : Index). y.table.0 == t) is apart) lt (sym same)), rest k lt)
others_by i is t q none apart other rest false one false two k lt = rest k lt

pub other_indexes : (is : List Index) (t q place : ℕ) (none : Index) → AreDistinct region_of_index is → q ≢ t → place < length (indexes_of t is) → HasNone region_of_index (get_or (indexes_of t is) place none).region (indexes_of q is)
other_indexes [] t q place none distinct other lt = tt
other_indexes (i ∷ is) t q place none distinct other lt =
    others_by i is t q none distinct.0 other (λ k less. other_indexes is t q k none distinct.1 other less) (i.table.0 == t) refl (i.table.0 == q) refl place lt

-- an index at a place of a table's is found by its number
further : (i : Index) (is : List Index) (t : ℕ) (d : Index) → HasNone number_of_index i.id.0 is → ((k : ℕ) → k < length (indexes_of t is) → (index_in is (get_or (indexes_of t is) k d).id.0 ≡ Some (get_or (indexes_of t is) k d)) × ((get_or (indexes_of t is) k d).table.0 ≡ t))
    → (k : ℕ) → k < length (indexes_of t is) → (index_in (i ∷ is) (get_or (indexes_of t is) k d).id.0 ≡ Some (get_or (indexes_of t is) k d)) × ((get_or (indexes_of t is) k d).table.0 ≡ t)
further i is t d apart rest k l =
    let r = rest k l in
    (index_later i is (get_or (indexes_of t is) k d).id.0 (λ same. none_place number_of_index (indexes_of t is) k i.id.0 d (none_filter number_of_index i.id.0 (λ (y : Index). y.table.0 == t) is apart) l (sym same)) ∙ r.0, r.1)

placed_by : (i : Index) (is : List Index) (t : ℕ) (d : Index) → HasNone number_of_index i.id.0 is → ((k : ℕ) → k < length (indexes_of t is) → (index_in is (get_or (indexes_of t is) k d).id.0 ≡ Some (get_or (indexes_of t is) k d)) × ((get_or (indexes_of t is) k d).table.0 ≡ t))
    → (c : Bool) → (i.table.0 == t) ≡ c → (k : ℕ) → k < length (first_if i c (indexes_of t is)) → (index_in (i ∷ is) (get_or (first_if i c (indexes_of t is)) k d).id.0 ≡ Some (get_or (first_if i c (indexes_of t is)) k d)) × ((get_or (first_if i c (indexes_of t is)) k d).table.0 ≡ t)
placed_by i is t d apart rest true is-true zero l = (index_first i is i.id.0 refl, eqb-true i.table.0 t is-true)
placed_by i is t d apart rest true is-true (suc k) l = further i is t d apart rest k (omega arith)
placed_by i is t d apart rest false is-false k l = further i is t d apart rest k l

pub index_placed : (is : List Index) (t k : ℕ) (d : Index) → AreDistinct number_of_index is → k < length (indexes_of t is) → (index_in is (get_or (indexes_of t is) k d).id.0 ≡ Some (get_or (indexes_of t is) k d)) × ((get_or (indexes_of t is) k d).table.0 ≡ t)
index_placed [] t k d once l = absurd (omega arith)
index_placed (i ∷ is) t k d once l = placed_by i is t d once.0 (λ m less. index_placed is t m d once.1 less) (i.table.0 == t) refl k l

module _ (f : FolderData) (numbered : AreNumbered f.standing) (t : ℕ) (x : Table) (found : table_in f.standing.tables t ≡ Some x) where
  -- a region of the table's rows
  module _ (n : ℕ) (one : IsRegionAmong n x.regions) where
    pub rows_foreign : (q : ℕ) (y : Table) → q ≢ t → table_in f.standing.tables q ≡ Some y → IsForeign f y n
    rows_foreign q y other is = record {
      rows = none_of n y.regions (λ theirs. other (sym (numbered.tables t q n x y found is one theirs)));
      indexes = none_filter region_of_index n (λ (i : Index). i.table.0 == y.id.0) f.standing.indexes (numbered.apart t n x found one);
    }

    pub rows_apart : HasNone region_of_index n (indexes_of x.id.0 f.standing.indexes)
    rows_apart = none_filter region_of_index n (λ (i : Index). i.table.0 == x.id.0) f.standing.indexes (numbered.apart t n x found one)

  -- the region of one of its indexes
  module _ (n place : ℕ) (i : Index) (there : place < length (indexes_of x.id.0 f.standing.indexes)) (at : get_or (indexes_of x.id.0 f.standing.indexes) place i ≡ i) (region-is : i.region ≡ n) where
    abbrev stood : List Index
    stood = indexes_of x.id.0 f.standing.indexes

    its : (get_or stood place i).region ≡ n
    its = ap region_of_index at ∙ region-is

    pub no_rows : (q : ℕ) (y : Table) → table_in f.standing.tables q ≡ Some y → HasNone number_of_region n y.regions
    no_rows q y is = none_of n y.regions (λ theirs.
        none_place region_of_index stood place n i (none_filter region_of_index n (λ (z : Index). z.table.0 == x.id.0) f.standing.indexes (numbered.apart q n y is theirs)) there its)

    pub index_foreign : (q : ℕ) (y : Table) → q ≢ t → table_in f.standing.tables q ≡ Some y → IsForeign f y n
    index_foreign q y other is = record {
      rows = no_rows q y is;
      indexes = subst (λ (m : ℕ). HasNone region_of_index m (indexes_of y.id.0 f.standing.indexes)) its
          (other_indexes f.standing.indexes x.id.0 y.id.0 place i numbered.indexes (λ same. other (sym (found_number f.standing.tables q y is) ∙ (same ∙ found_number f.standing.tables t x found))) there);
    }

    pub only_index : (q : ℕ) → q < length stood → q ≢ place → ((get_or stood q i).region ≢ n) × ((get_or stood q i).id.0 ≢ i.id.0)
    only_index q lt other = (
      (λ same. other (one_place region_of_index stood q place i (distinct_filter region_of_index (λ (z : Index). z.table.0 == x.id.0) f.standing.indexes numbered.indexes) lt there (same ∙ sym its))),
      (λ same. other (one_place number_of_index stood q place i (distinct_filter number_of_index (λ (z : Index). z.table.0 == x.id.0) f.standing.indexes numbered.ids) lt there (same ∙ ap number_of_index (sym at)))),
    )
