-- Two folders for which the same files stand.
use Rattle.std.proofs.Common.{◌≡◌, ◌≤◌, ◌<◌, ℕ, zero, suc, Bool, true, false, Option, Some, None, List, [], ◌∷◌, ◌++◌, map, refl, sym, ap, subst, ◌∙◌, arith, inl, inr}
use Rattle.std.specs.Prelude.{◌==◌, ◌||◌, max, filter, if◌then◌else◌}
use Rattle.std.specs.List.{AllByRecursion, flat_map, list_any}
use Rattle.std.proofs.lemmas.Bool.{cases_Bool, cases_eq, eq-eqb, ne_eqb}
use Rattle.px_outside.specs.Disk.{Image}
use Rattle.px_cells.specs.CellData.{CellData}
use Rattle.px_tables.specs.declared.index.Index.{Index}
use Rattle.px_tables.specs.declared.table.Table.{Table}
use Rattle.px_tables.specs.declared.table.TableRegion.{TableRegion}
use Rattle.px_trail.specs.Trail.{Base}
use Rattle.px_tablefolder.specs.Folder.{IndexFiles, IsOpened, TableFiles, folder_changed, folder_high, folder_last, folder_state}
use Rattle.px_groupworld.specs.Group.{GroupData}
use Rattle.px_groupworld.specs.Sound.{IsSoundTable}
use Rattle.px_rows.specs.Spelled.{row_form}
use Rattle.px_region.specs.Region.{RegionData}
use Rattle.px_region.proofs.OneStanding as region
use Rattle.px_schema.specs.declared.standing.Standing.{Standing}
use Rattle.px_catalog.proofs.Opening as catalogue
use Rattle.px_recovery.specs.Base.{IsSoundFolder, IsSoundPart, base_of, told_of_table}
use Rattle.px_recovery.specs.Folder.{FolderData, IsKeptPart, IsNumberAmong, StandsFor, region_numbers, regions_of}
use Rattle.px_recovery.specs.Stands.{AreNumbered, opened_index}
use Rattle.px_recovery.specs.Tables.{AreInRegion, cells_of_regions, form_of_table, horizon_in, index_files, index_in, indexes_of, table_files, table_in}
use Rattle.px_recovery.proofs.Numbered.{all_found, found_by}

-- ---- numbers that are named

among_left : (n : ℕ) (a b : List ℕ) → IsNumberAmong n a → IsNumberAmong n (a ++ b)
among_left n [] b is = absurd cc
among_left n (m ∷ a) b is = elim (cases_eq m n) [
  | inl same ↦ ap (λ (c : Bool). c || list_any (λ k. k == n) (a ++ b)) (eq-eqb m n same)
  | inr other ↦ ap (λ (c : Bool). c || list_any (λ k. k == n) (a ++ b)) (ne_eqb m n other) ∙ among_left n a b (sym (ap (λ (c : Bool). c || list_any (λ k. k == n) a) (ne_eqb m n other)) ∙ is)
]

among_right : (n : ℕ) (a b : List ℕ) → IsNumberAmong n b → IsNumberAmong n (a ++ b)
among_right n [] b is = is
among_right n (m ∷ a) b is = elim (cases_eq m n) [
  | inl same ↦ ap (λ (c : Bool). c || list_any (λ k. k == n) (a ++ b)) (eq-eqb m n same)
  | inr other ↦ ap (λ (c : Bool). c || list_any (λ k. k == n) (a ++ b)) (ne_eqb m n other) ∙ among_right n a b is
]

-- of these regions each is named
abbrev AllNamed : (ℕ → Type 0) → List TableRegion → Type 0
AllNamed P gs = AllByRecursion (λ g. P g.number) gs

named_more : (P Q : ℕ → Type 0) → ((n : ℕ) → P n → Q n) → (gs : List TableRegion) → AllNamed P gs → AllNamed Q gs
named_more P Q more [] all = tt
named_more P Q more (g ∷ gs) all = (more g.number all.0, named_more P Q more gs all.1)

own_regions : (gs : List TableRegion) → AllNamed (λ n. IsNumberAmong n (map (λ (r : TableRegion). r.number) gs)) gs
own_regions [] = tt
own_regions (g ∷ gs) = (
  ap (λ (c : Bool). c || list_any (λ k. k == g.number) (map (λ (r : TableRegion). r.number) gs)) (eq-eqb g.number g.number refl),
  named_more (λ n. IsNumberAmong n (map (λ (r : TableRegion). r.number) gs)) (λ n. IsNumberAmong n (g.number ∷ map (λ (r : TableRegion). r.number) gs)) (λ n is. among_right n (g.number ∷ []) (map (λ (r : TableRegion). r.number) gs) is) gs (own_regions gs),
)

table_regions : (ts : List Table) (t : ℕ) (x : Table) → table_in ts t ≡ Some x → AllNamed (λ n. IsNumberAmong n (flat_map regions_of ts)) x.regions
unfolding table_in
table_regions [] t x is = absurd cc
table_regions (y ∷ ts) t x is = elim (found_by y x (table_in ts t) (y.id.0 == t) is) [
  | inl e ↦ subst (λ (z : Table). AllNamed (λ n. IsNumberAmong n (flat_map regions_of (y ∷ ts))) z.regions) e.1
      (named_more (λ n. IsNumberAmong n (regions_of y)) (λ n. IsNumberAmong n (flat_map regions_of (y ∷ ts))) (λ n own. among_left n (regions_of y) (flat_map regions_of ts) own) y.regions (own_regions y.regions))
  | inr e ↦ named_more (λ n. IsNumberAmong n (flat_map regions_of ts)) (λ n. IsNumberAmong n (flat_map regions_of (y ∷ ts))) (λ n own. among_right n (regions_of y) (flat_map regions_of ts) own) x.regions (table_regions ts t x e.1)
]

all_indexes : (P Q : ℕ → Type 0) → ((n : ℕ) → P n → Q n) → (is : List Index) → AllByRecursion (λ (i : Index). P i.region) is → AllByRecursion (λ (i : Index). Q i.region) is
all_indexes P Q more [] all = tt
all_indexes P Q more (i ∷ is) all = (more i.region all.0, all_indexes P Q more is all.1)

index_regions : (is : List Index) → AllByRecursion (λ (i : Index). IsNumberAmong i.region (map (λ (y : Index). y.region) is)) is
index_regions [] = tt
index_regions (i ∷ is) = (
  ap (λ (c : Bool). c || list_any (λ k. k == i.region) (map (λ (y : Index). y.region) is)) (eq-eqb i.region i.region refl),
  all_indexes (λ n. IsNumberAmong n (map (λ (y : Index). y.region) is)) (λ n. IsNumberAmong n (i.region ∷ map (λ (y : Index). y.region) is)) (λ n own. among_right n (i.region ∷ []) (map (λ (y : Index). y.region) is) own) is (index_regions is),
)

-- ---- the same definitions, and the same contents of the regions that are named

module _ (s : Standing) (p q : ℕ → RegionData) (same : (n : ℕ) → IsKeptPart s (suc n) → p (suc n) ≡ q (suc n)) (numbered : AreNumbered s) where
  abbrev f : FolderData
  f = record { standing = s; regions = p }

  abbrev h : FolderData
  h = record { standing = s; regions = q }

  same_at : (n : ℕ) → 1 ≤ n → IsNumberAmong n (region_numbers s) → p n ≡ q n
  same_at zero some named = absurd (omega arith)
  same_at (suc n) some named = same n named

  abbrev Same : ℕ → Type 0
  Same n = p n ≡ q n

  both : (gs : List TableRegion) → AllNamed (λ n. 1 ≤ n) gs → AllNamed (λ n. IsNumberAmong n (region_numbers s)) gs → AllNamed Same gs
  both [] some named = tt
  both (g ∷ gs) some named = (same_at g.number some.0 named.0, both gs some.1 named.1)

  rows_same : (t : ℕ) (x : Table) → table_in s.tables t ≡ Some x → AllNamed Same x.regions
  rows_same t x found = both x.regions (all_found (λ y. AllByRecursion (λ g. 1 ≤ g.number) y.regions) s.tables t x numbered.some found)
      (named_more (λ n. IsNumberAmong n (flat_map regions_of s.tables)) (λ n. IsNumberAmong n (region_numbers s)) (λ n own. among_left n (flat_map regions_of s.tables) (map (λ (i : Index). i.region) s.indexes) own) x.regions (table_regions s.tables t x found))

  both_indexes : (is : List Index) → AllByRecursion (λ (i : Index). 1 ≤ i.region) is → AllByRecursion (λ (i : Index). IsNumberAmong i.region (region_numbers s)) is → AllByRecursion (λ (i : Index). Same i.region) is
  both_indexes [] some named = tt
  both_indexes (i ∷ is) some named = (same_at i.region some.0 named.0, both_indexes is some.1 named.1)

  indexes_same : AllByRecursion (λ (i : Index). Same i.region) s.indexes
  indexes_same = both_indexes s.indexes numbered.some_index
      (all_indexes (λ n. IsNumberAmong n (map (λ (y : Index). y.region) s.indexes)) (λ n. IsNumberAmong n (region_numbers s)) (λ n own. among_right n (flat_map regions_of s.tables) (map (λ (y : Index). y.region) s.indexes) own) s.indexes (index_regions s.indexes))

  -- the files of a table

  cells_same : (gs : List TableRegion) → AllNamed Same gs → cells_of_regions p gs ≡ cells_of_regions q gs
  unfolding cells_of_regions
  cells_same [] all = refl
  cells_same (g ∷ gs) all = λ i. (all.0 i).cells ++ cells_same gs all.1 i

  horizon_same : (gs : List TableRegion) → AllNamed Same gs → horizon_in p gs ≡ horizon_in q gs
  unfolding horizon_in
  horizon_same [] all = refl
  horizon_same (g ∷ gs) all = λ i. max (all.0 i).horizon (horizon_same gs all.1 i)

  abbrev if_of : Bool → IndexFiles → List IndexFiles → List IndexFiles
  if_of c y ys = if c then y ∷ ys else ys

  file_same : (x : Index) → Same x.region → index_files p x ≡ index_files q x
  file_same x is = λ i. record (index_files p x) { cells = (is i).cells; horizon = (is i).horizon }

  map_if : (g : Index → IndexFiles) (x : Index) (is : List Index) (c : Bool) → map g (if c then x ∷ is else is) ≡ if_of c (g x) (map g is)
  map_if g x is true = refl
  map_if g x is false = refl

  files_same : (t : ℕ) (is : List Index) → AllByRecursion (λ (i : Index). Same i.region) is → map (index_files p) (indexes_of t is) ≡ map (index_files q) (indexes_of t is)
  files_same t [] all = refl
  files_same t (x ∷ is) all =
      map_if (index_files p) x (indexes_of t is) (x.table.0 == t) ∙ ((λ i. if_of (x.table.0 == t) (file_same x all.0 i) (files_same t is all.1 i)) ∙ sym (map_if (index_files q) x (indexes_of t is) (x.table.0 == t)))

  table_same : (t : ℕ) (x : Table) → table_in s.tables t ≡ Some x → table_files f x ≡ table_files h x
  table_same t x found = λ i. record { cells = cells_same x.regions (rows_same t x found) i; horizon = horizon_same x.regions (rows_same t x found) i; indexes = files_same x.id.0 s.indexes indexes_same i }

  -- the base

  told_same : {A : Type 0} (tells : Table → TableFiles → A) (none : A) (t : ℕ) (o : Option Table) → table_in s.tables t ≡ o → told_of_table (λ x. tells x (table_files f x)) none o ≡ told_of_table (λ x. tells x (table_files h x)) none o
  told_same tells none t None is = refl
  told_same tells none t (Some x) is = ap (tells x) (table_same t x is)

  abbrev tells_at : {A : Type 0} (tells : Table → TableFiles → A) (none : A) (t : ℕ) → told_of_table (λ x. tells x (table_files f x)) none (table_in s.tables t) ≡ told_of_table (λ x. tells x (table_files h x)) none (table_in s.tables t)
  tells_at tells none t = told_same tells none t (table_in s.tables t) refl

  pub base_same : base_of f ≡ base_of h
  base_same = λ i. record {
    tables = λ t. table_in s.tables t;
    indexes = λ n. opened_index (index_in s.indexes n);
    next = s.next;
    last = λ t. tells_at (λ x n. folder_last n) 0 t i;
    horizon = λ t. tells_at (λ x n. folder_high n) 0 t i;
    data_horizon = λ t. tells_at (λ x n. n.horizon) 0 t i;
    state = λ t r k. tells_at (λ x n. folder_state (row_form x) n r k) None t i;
    changed = λ t r k. tells_at (λ x n. folder_changed (row_form x) n r k) false t i;
  }

  placed_same : (x : Table) (gs : List TableRegion) → AllNamed Same gs → AllByRecursion (λ g. AreInRegion x g.number (p g.number).cells) gs → AllByRecursion (λ g. AreInRegion x g.number (q g.number).cells) gs
  placed_same x [] all placed = tt
  placed_same x (g ∷ gs) all placed = (subst (λ (r : RegionData). AreInRegion x g.number r.cells) all.0 placed.0, placed_same x gs all.1 placed.1)

  part_same : (t : ℕ) (x : Table) → table_in s.tables t ≡ Some x → (u : GroupData) → IsSoundPart f x u → IsSoundPart h x u
  part_same t x found u part = record {
    opened = subst (λ (n : TableFiles). IsOpened n u) (table_same t x found) part.opened;
    sound = subst (λ (b : Base). IsSoundTable (form_of_table b s.indexes x) u) base_same part.sound;
    placed = placed_same x x.regions (rows_same t x found) part.placed;
    once = part.once;
  }

  pub sound_same : IsSoundFolder f → IsSoundFolder h
  sound_same sound = record { numbered = sound.numbered; opens = sound.opens; tables = λ t x found. part_same t x found (sound.opens t) (sound.tables t x found) }

-- ---- the same files

module _ (image : Image) (f h : FolderData) (one : StandsFor image f) (two : StandsFor image h) where
  standing_same : f.standing ≡ h.standing
  standing_same = catalogue.stands_once image f.standing h.standing (one.parts zero tt) (two.parts zero tt)

  abbrev between : FolderData
  between = record { standing = f.standing; regions = h.regions }

  regions_same : (n : ℕ) → IsKeptPart f.standing (suc n) → f.regions (suc n) ≡ h.regions (suc n)
  regions_same n kept = region.stands_once (suc n) image (f.regions (suc n)) (h.regions (suc n)) (one.parts (suc n) kept) (two.parts (suc n) (subst (λ (s : Standing). IsKeptPart s (suc n)) standing_same kept))

  to_other : between ≡ h
  to_other = λ i. record { standing = standing_same i; regions = h.regions }

  pub one_sound : IsSoundFolder f → IsSoundFolder h
  one_sound sound = subst IsSoundFolder to_other (sound_same f.standing f.regions h.regions regions_same sound.numbered sound)

  pub one_base : IsSoundFolder f → base_of f ≡ base_of h
  one_base sound = base_same f.standing f.regions h.regions regions_same sound.numbered ∙ ap base_of to_other
