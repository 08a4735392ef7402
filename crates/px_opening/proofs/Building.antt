-- Groups that are made of what was read.
use Rattle.std.proofs.Common.{◌≡◌, ◌<◌, ◌+◌, ℕ, zero, suc, Bool, true, false, List, [], ◌∷◌, ◌++◌, length, take, get_or, map, refl, sym, ap, subst, ◌∙◌, append_assoc, arith, inl, inr, Some}
use Rattle.std.specs.Prelude.{◌==◌, cond, filter, max, slice_get, IfOk, IsPermutation, Result, Ok, Err}
use Rattle.std.specs.List.{All, AllByRecursion, flat_map}
use Rattle.std.proofs.lemmas.Bool.{cases_Bool}
use Rattle.std.proofs.lemmas.List.{append-nil, map-append, take_more}
use Rattle.std.proofs.lemmas.Grind.{flat_map-append}
use Rattle.std.proofs.lemmas.List.Elements.{All-from_recursion, All-get_or, All-weaker, filter-append, filter_more, recursion_from_All}
use Rattle.std.proofs.lemmas.List.Sorted.{All-permutation, IsPermutation-append_right, IsPermutation-cons, IsPermutation-map, IsPermutation-trans}
use Rattle.px_cells.specs.CellData.{CellData}
use Rattle.px_tables.specs.declared.index.Index.{Index}
use Rattle.px_tables.specs.declared.table.Table.{Table}
use Rattle.px_tables.specs.declared.table.TableRegion.{TableRegion}
use Rattle.px_tablefolder.specs.Folder.{IndexFiles, folder_high, folder_last, greatest_horizon, greatest_in_indexes, last_cell}
use Rattle.px_region.specs.Region.{RegionData, data_of, read_of}
use Rattle.px_region.specs.declared.region.Region.{Region}
use Rattle.px_group.specs.declared.group.Group.{Group}
use Rattle.px_group.specs.declared.group.IndexRegion.{IndexRegion}
use Rattle.px_recovery.specs.Tables.{cells_of_regions, horizon_in, index_files, indexes_of}
use Rattle.px_outside.specs.Parts.{AreDistinct}
use Rattle.px_cellshapes.specs.Rows.{AreRightRows}
use Rattle.px_indexrow.specs.Form.{IsRightIndex}
use Rattle.px_schema.specs.declared.standing.Standing.{Standing}
use Rattle.px_recovery.specs.Folder.{region_numbers}
use Rattle.px_recovery.specs.Tables.{table_in}
use Rattle.px_folder.specs.Drawn.{AreDrawn}
use Rattle.px_folder.specs.Read.{data_at, folder_by, number_of_open_region}
use Rattle.px_folder.proofs.Found.{at_permuted, each_at, once_mapped}
use Rattle.px_folder.proofs.Once.{once_permuted}
use Rattle.px_opening.specs.Definitions.{AreRight, IsOneRegion, IsRightOf, first_number}
use Rattle.px_gatelog.specs.declared.fault.StartFault.{StartFault}
use Rattle.px_gatelog.specs.declared.fault.StartFault.TheVariants as start
use Rattle.px_opening.specs.declared.fault.OpenFault.TheVariants.{Damaged}
use Rattle.px_opening.specs.inner.Faults.{of_start}
use Rattle.px_standing.specs.Agrees.{number_of_table}
use Rattle.px_opening.proofs.Lists.{each_table, rising_once, some_is}
use Rattle.px_catalog.specs.Catalogue.{standing_of}
use Rattle.px_opening.specs.Opened.{IsDataOf, IsGroupOf, IsOpenedRight, IsPartRead, IsPartRight, all_regions, files_by, folder_in, index_of_region, is_standing, region_in, regions_in, regions_of_group, table_in_group}
use Rattle.px_opening.specs.declared.opened.Opened.{Opened}
use Rattle.px_opening.specs.declared.heights.Heights.{Heights}
use Rattle.px_opening.specs.inner.Heights.{IsRaised, greatest_in_index}

-- ---- the greatest numbers

pub no_cell : 0 ≡ last_cell []
unfolding last_cell
no_cell = refl

pub no_number : 0 ≡ greatest_in_indexes []
unfolding greatest_in_indexes
no_number = refl

pub no_horizon : 0 ≡ greatest_horizon []
unfolding greatest_horizon
no_horizon = refl

-- an element at its place
pub at_place : {A : Type 0} (xs : List A) (i : ℕ) (x : A) → i < length xs → x ≡ get_or xs i x → slice_get xs i ≡ Some x
at_place {A = A} [] i x lt is = absurd (omega arith)
at_place {A = A} (y ∷ ys) zero x lt is = ap (λ (z : A). Some z) (sym is)
at_place {A = A} (y ∷ ys) (suc i) x lt is = at_place ys i x (omega arith) is

last_more : (cells : List CellData) (c : CellData) → last_cell (cells ++ c ∷ []) ≡ max (last_cell cells) c.stamp
unfolding last_cell
last_more [] c = omega arith
last_more (x ∷ cells) c = (let e = last_more cells c in omega arith)

pub last_append : (xs ys : List CellData) → last_cell (xs ++ ys) ≡ max (last_cell xs) (last_cell ys)
unfolding last_cell
last_append [] ys = omega arith
last_append (x ∷ xs) ys = (let e = last_append xs ys in omega (arith, e))

pub last_next : (cells : List CellData) (i : ℕ) (c : CellData) → i < length cells → c ≡ get_or cells i c → last_cell (take (i + 1) cells) ≡ max (last_cell (take i cells)) c.stamp
last_next cells i c lt is = ap last_cell (take_more cells i c lt ∙ ap (λ (x : CellData). take i cells ++ x ∷ []) (sym is)) ∙ last_more (take i cells) c

number_more : (ys : List IndexFiles) (y : IndexFiles) → greatest_in_indexes (ys ++ y ∷ []) ≡ max (greatest_in_indexes ys) (greatest_in_index y)
unfolding greatest_in_indexes
number_more [] y = omega arith
number_more (x ∷ ys) y = (let e = number_more ys y in omega arith)

horizon_more : (ys : List IndexFiles) (y : IndexFiles) → greatest_horizon (ys ++ y ∷ []) ≡ max (greatest_horizon ys) y.horizon
unfolding greatest_horizon
horizon_more [] y = omega arith
horizon_more (x ∷ ys) y = (let e = horizon_more ys y in omega arith)

-- the indexes of a table with one more
own_next : (t : ℕ) (is : List Index) (k : ℕ) (i : Index) → k < length is → i ≡ get_or is k i → indexes_of t (take (k + 1) is) ≡ indexes_of t (take k is) ++ cond (i.table.0 == t) (i ∷ []) []
own_next t is k i lt same = filter_more (λ (x : Index). x.table.0 == t) is k i lt ∙ ap (λ (x : Index). indexes_of t (take k is) ++ cond (x.table.0 == t) (x ∷ []) []) (sym same)

pub own_taken : (t : ℕ) (is : List Index) (k : ℕ) (i : Index) → k < length is → i ≡ get_or is k i → (i.table.0 == t) ≡ true → indexes_of t (take (k + 1) is) ≡ indexes_of t (take k is) ++ i ∷ []
own_taken t is k i lt same mine = own_next t is k i lt same ∙ ap (λ (b : Bool). indexes_of t (take k is) ++ cond b (i ∷ []) []) mine

pub own_passed : (t : ℕ) (is : List Index) (k : ℕ) (i : Index) → k < length is → i ≡ get_or is k i → (i.table.0 == t) ≡ false → indexes_of t (take (k + 1) is) ≡ indexes_of t (take k is)
own_passed t is k i lt same other = own_next t is k i lt same ∙ (ap (λ (b : Bool). indexes_of t (take k is) ++ cond b (i ∷ []) []) other ∙ append-nil (indexes_of t (take k is)))

module _ (f : ℕ → RegionData) (t : ℕ) (is : List Index) (k : ℕ) (i : Index) (lt : k < length is) (same : i ≡ get_or is k i) (mine : (i.table.0 == t) ≡ true) (h new : Heights) (raised : IsRaised h (index_files f i) new) where
  files_next : map (index_files f) (indexes_of t (take (k + 1) is)) ≡ map (index_files f) (indexes_of t (take k is)) ++ index_files f i ∷ []
  files_next = ap (map (index_files f)) (own_taken t is k i lt same mine) ∙ map-append (index_files f) (indexes_of t (take k is)) (i ∷ [])

  pub last_raised : h.last ≡ greatest_in_indexes (map (index_files f) (indexes_of t (take k is))) → new.last ≡ greatest_in_indexes (map (index_files f) (indexes_of t (take (k + 1) is)))
  last_raised e = raised.last ∙ (ap (λ (n : ℕ). max n (greatest_in_index (index_files f i))) e ∙ sym (ap greatest_in_indexes files_next ∙ number_more (map (index_files f) (indexes_of t (take k is))) (index_files f i)))

  pub horizon_raised : h.horizon ≡ greatest_horizon (map (index_files f) (indexes_of t (take k is))) → new.horizon ≡ greatest_horizon (map (index_files f) (indexes_of t (take (k + 1) is)))
  horizon_raised e = raised.horizon ∙ (ap (λ (n : ℕ). max n (index_files f i).horizon) e ∙ sym (ap greatest_horizon files_next ∙ horizon_more (map (index_files f) (indexes_of t (take k is))) (index_files f i)))

-- a table with one region
one_cells : (f : ℕ → RegionData) (gs : List TableRegion) → IsOneRegion gs → cells_of_regions f gs ≡ (f (first_number gs)).cells
unfolding cells_of_regions
one_cells f [] one = absurd one
one_cells f (g ∷ []) one = append-nil (f g.number).cells
one_cells f (g ∷ h ∷ gs) one = absurd one

one_horizon : (f : ℕ → RegionData) (gs : List TableRegion) → IsOneRegion gs → horizon_in f gs ≡ (f (first_number gs)).horizon
unfolding horizon_in
one_horizon f [] one = absurd one
one_horizon f (g ∷ []) one = omega arith
one_horizon f (g ∷ h ∷ gs) one = absurd one

module _ (f : ℕ → RegionData) (is : List Index) (t : Table) (one : IsOneRegion t.regions) (r : Region) (told : IsDataOf f r) (number : r.number ≡ first_number t.regions) where
  read_is : f (first_number t.regions) ≡ data_of r
  read_is = ap f (sym number) ∙ sym told

  pub table_last : folder_last (files_by f is t) ≡ max (max (data_of r).horizon (last_cell (read_of r))) (greatest_in_indexes (map (index_files f) (indexes_of t.id.0 is)))
  table_last =
      let h : horizon_in f t.regions ≡ (data_of r).horizon = one_horizon f t.regions one ∙ ap (λ (s : RegionData). s.horizon) read_is in
      let c : cells_of_regions f t.regions ≡ read_of r = one_cells f t.regions one ∙ ap (λ (s : RegionData). s.cells) read_is in
      λ i. max (max (h i) (last_cell (c i))) (greatest_in_indexes (map (index_files f) (indexes_of t.id.0 is)))

  pub table_high : folder_high (files_by f is t) ≡ max (data_of r).horizon (greatest_horizon (map (index_files f) (indexes_of t.id.0 is)))
  table_high =
      let h : horizon_in f t.regions ≡ (data_of r).horizon = one_horizon f t.regions one ∙ ap (λ (s : RegionData). s.horizon) read_is in
      λ i. max (h i) (greatest_horizon (map (index_files f) (indexes_of t.id.0 is)))

-- ---- regions that are taken

-- those before, these, and the rest
pub moved_on : (all before these rest now : List Region) → IsPermutation all (before ++ rest) → IsPermutation rest (these ++ now) → IsPermutation all ((before ++ these) ++ now)
moved_on all before these rest now a b =
    subst (λ (l : List Region). IsPermutation all l) (sym (append_assoc before these now)) (IsPermutation-trans all (before ++ rest) (before ++ (these ++ now)) a (IsPermutation-append_right before rest (these ++ now) b))

pub moved_part : (all : List Region) (xs : List IndexRegion) (x : IndexRegion) (rest now : List Region) → IsPermutation all (map region_in xs ++ rest) → IsPermutation rest (x.region ∷ now) → IsPermutation all (map region_in (xs ++ x ∷ []) ++ now)
moved_part all xs x rest now a b = subst (λ (l : List Region). IsPermutation all (l ++ now)) (sym (map-append region_in xs (x ∷ []))) (moved_on all (map region_in xs) (x.region ∷ []) rest now a b)

pub moved_group : (all : List Region) (gs : List Group) (g : Group) (rest now : List Region) → IsPermutation all (regions_in gs rest) → IsPermutation rest (regions_of_group g ++ now) → IsPermutation all (regions_in (gs ++ g ∷ []) now)
moved_group all gs g rest now a b =
    subst (λ (l : List Region). IsPermutation all (l ++ now)) (sym (flat_map-append regions_of_group gs (g ∷ []) ∙ ap (λ (l : List Region). flat_map regions_of_group gs ++ l) (append-nil (regions_of_group g)))) (moved_on all (flat_map regions_of_group gs) (regions_of_group g) rest now a b)

pub moved_rows : (all : List Region) (r : Region) (mid these now : List Region) → IsPermutation all (r ∷ mid) → IsPermutation mid (these ++ now) → IsPermutation all ((r ∷ these) ++ now)
moved_rows all r mid these now a b = IsPermutation-trans all (r ∷ mid) (r ∷ (these ++ now)) a (IsPermutation-cons r mid (these ++ now) b)

-- the indexes that were taken
pub standing_next : (t : ℕ) (is : List Index) (k : ℕ) (i : Index) (xs : List IndexRegion) (x : IndexRegion) → k < length is → i ≡ get_or is k i → (i.table.0 == t) ≡ true → is_standing i ≡ true → x.index ≡ i
    → map index_of_region xs ≡ filter is_standing (indexes_of t (take k is)) → map index_of_region (xs ++ x ∷ []) ≡ filter is_standing (indexes_of t (take (k + 1) is))
standing_next t is k i xs x lt same mine runs x-is e =
    map-append index_of_region xs (x ∷ []) ∙ ((λ j. e j ++ x-is j ∷ []) ∙ sym (ap (filter is_standing) (own_taken t is k i lt same mine) ∙ (filter-append is_standing (indexes_of t (take k is)) (i ∷ []) ∙ ap (λ (b : Bool). filter is_standing (indexes_of t (take k is)) ++ cond b (i ∷ []) []) runs)))

pub idle_next : (t : ℕ) (is : List Index) (k : ℕ) (i : Index) (xs : List IndexRegion) → k < length is → i ≡ get_or is k i → is_standing i ≡ false
    → map index_of_region xs ≡ filter is_standing (indexes_of t (take k is)) → map index_of_region xs ≡ filter is_standing (indexes_of t (take (k + 1) is))
idle_next t is k i xs lt same idle e = e ∙ sym (elim (cases_Bool (i.table.0 == t)) [
  | inl mine ↦
      ap (filter is_standing) (own_taken t is k i lt same mine)
      ∙ (filter-append is_standing (indexes_of t (take k is)) (i ∷ []) ∙ (ap (λ (b : Bool). filter is_standing (indexes_of t (take k is)) ++ cond b (i ∷ []) []) idle ∙ append-nil (filter is_standing (indexes_of t (take k is)))))
  | inr other ↦ ap (filter is_standing) (own_passed t is k i lt same other)
])

pub other_next : (t : ℕ) (is : List Index) (k : ℕ) (i : Index) (xs : List IndexRegion) → k < length is → i ≡ get_or is k i → (i.table.0 == t) ≡ false
    → map index_of_region xs ≡ filter is_standing (indexes_of t (take k is)) → map index_of_region xs ≡ filter is_standing (indexes_of t (take (k + 1) is))
other_next t is k i xs lt same other e = e ∙ sym (ap (filter is_standing) (own_passed t is k i lt same other))

-- ---- a group

parts_data : (f : ℕ → RegionData) (t : Table) (xs : List IndexRegion) → AllByRecursion (IsDataOf f) (map region_in xs) → AllByRecursion (IsPartRead t) xs → AllByRecursion (IsPartRight f t) xs
parts_data f t [] own read = tt
parts_data f t (x ∷ xs) own read = (record { read = read.0; told = own.0 }, parts_data f t xs own.1 read.1)

back_all : (P : Region → Type 0) (a b : List Region) → AllByRecursion P (a ++ b) → AllByRecursion P b
back_all P [] b all = all
back_all P (r ∷ a) b all = back_all P a b all.1

front_all : (P : Region → Type 0) (a b : List Region) → AllByRecursion P (a ++ b) → AllByRecursion P a
front_all P [] b all = tt
front_all P (r ∷ a) b all = (all.0, front_all P a b all.1)

module _ (f : ℕ → RegionData) (is : List Index) (t : Table) (g : Group) (old rest : List Region) (told : All (IsDataOf f) old) (moved : IsPermutation old (regions_of_group g ++ rest)) where
  own_data : AllByRecursion (IsDataOf f) (regions_of_group g)
  own_data = front_all (IsDataOf f) (regions_of_group g) rest (recursion_from_All (IsDataOf f) (regions_of_group g ++ rest) (All-permutation (IsDataOf f) old (regions_of_group g ++ rest) moved told))

  pub group_is : t ≡ g.table → g.rows.number ≡ first_number t.regions → AreRightRows t (read_of g.rows) → map index_of_region g.indexes.items ≡ filter is_standing (indexes_of t.id.0 is) → All (IsPartRead t) g.indexes.items
      → g.last ≡ folder_last (files_by f is t) → g.horizon ≡ folder_high (files_by f is t) → g.batches.items ≡ [] → g.points.items ≡ [] → IsGroupOf f is g
  group_is same number rows indexes parts last horizon batches points = record {
    number = subst (λ (x : Table). g.rows.number ≡ first_number x.regions) same number;
    told = own_data.0;
    rows = subst (λ (x : Table). AreRightRows x (read_of g.rows)) same rows;
    indexes_are = subst (λ (x : Table). map index_of_region g.indexes.items ≡ filter is_standing (indexes_of x.id.0 is)) same indexes;
    parts = subst (λ (x : Table). All (IsPartRight f x) g.indexes.items) same
        (All-from_recursion (IsPartRight f t) g.indexes.items (parts_data f t g.indexes.items own_data.1 (recursion_from_All (IsPartRead t) g.indexes.items parts)));
    last = subst (λ (x : Table). g.last ≡ folder_last (files_by f is x)) same last;
    horizon = subst (λ (x : Table). g.horizon ≡ folder_high (files_by f is x)) same horizon;
    batches = batches;
    points = points;
  }

-- ---- the folder

pub data_all : (rs : List Region) → AreDistinct number_of_open_region rs → All (IsDataOf (data_at rs)) rs
data_all rs once = All-from_recursion (IsDataOf (data_at rs)) rs (turned rs (each_at rs once))
  where
    turned : (us : List Region) → AllByRecursion (λ u. data_at rs u.number ≡ data_of u) us → AllByRecursion (IsDataOf (data_at rs)) us
    turned [] all = tt
    turned (u ∷ us) all = (sym all.0, turned us all.1)

pub data_moved : (rs us : List Region) → IsPermutation rs us → AreDistinct number_of_open_region rs → data_at us ≡ data_at rs
data_moved rs us moved once = λ i n. at_permuted rs us moved once n i

module _ (s : Standing) (rs us : List Region) (drawn : AreDrawn s) (numbers : IsPermutation (region_numbers s) (map number_of_open_region rs)) (moved : IsPermutation rs us) where
  pub numbers_moved : IsPermutation (region_numbers s) (map number_of_open_region us)
  numbers_moved = IsPermutation-trans (region_numbers s) (map number_of_open_region rs) (map number_of_open_region us) numbers (IsPermutation-map number_of_open_region rs us moved)

  pub once_moved : AreDistinct number_of_open_region us
  once_moved = once_mapped us (once_permuted (region_numbers s) (map number_of_open_region us) numbers_moved drawn.once)

-- the indexes of a table are right for it
pub right_for : (s : Standing) → AreRight s → (t : Table) → table_in s.tables t.id.0 ≡ Some t → All (λ i. i.table.0 ≡ t.id.0 → IsRightIndex t i) s.indexes
right_for s right t found = All-weaker (IsRightOf s.tables) (λ i. i.table.0 ≡ t.id.0 → IsRightIndex t i)
    (λ i r mine. subst (λ (x : Table). IsRightIndex x i) (some_is r.table t (sym r.stands ∙ (ap (λ (n : ℕ). table_in s.tables n) mine ∙ found))) r.right) s.indexes right.indexes

-- a table at a place is found by its number
pub found_at : (s : Standing) → AreRight s → (k : ℕ) (t : Table) → k < length s.tables → t ≡ get_or s.tables k t → table_in s.tables t.id.0 ≡ Some t
found_at s right k t lt is =
    subst (λ (x : Table). table_in s.tables x.id.0 ≡ Some x) (sym is) (All-get_or (λ x. table_in s.tables x.id.0 ≡ Some x) s.tables k t lt (All-from_recursion (λ x. table_in s.tables x.id.0 ≡ Some x) s.tables (each_table s.tables (rising_once number_of_table s.tables right.tables_rise))))

-- the tables of the groups with one more
pub tables_next : (ts : List Table) (k : ℕ) (t : Table) (gs : List Group) (g : Group) → k < length ts → t ≡ get_or ts k t → g.table ≡ t → map table_in_group gs ≡ take k ts → map table_in_group (gs ++ g ∷ []) ≡ take (k + 1) ts
tables_next ts k t gs g lt is own before =
    map-append table_in_group gs (g ∷ []) ∙ ((λ j. before j ++ own j ∷ []) ∙ sym (take_more ts k t lt ∙ ap (λ (x : Table). take k ts ++ x ∷ []) (sym is)))

-- the regions that are left have what all have
pub groups_rest : (f : ℕ → RegionData) (all : List Region) (gs : List Group) (rest : List Region) → IsPermutation all (regions_in gs rest) → All (IsDataOf f) all → All (IsDataOf f) rest
groups_rest f all gs rest moved told =
    All-from_recursion (IsDataOf f) rest (back_all (IsDataOf f) (flat_map regions_of_group gs) rest (recursion_from_All (IsDataOf f) (regions_in gs rest) (All-permutation (IsDataOf f) all (regions_in gs rest) moved told)))

pub group_same : (f : ℕ → RegionData) (is other : List Index) → other ≡ is → (g : Group) → IsGroupOf f other g → IsGroupOf f is g
group_same f is other same g own = subst (λ (l : List Index). IsGroupOf f l g) same own

-- what was opened is right
pub opened_right : (o : Opened) (rs : List Region) → AreDrawn (standing_of o.catalog) → AreRight (standing_of o.catalog) → IsPermutation (region_numbers (standing_of o.catalog)) (map number_of_open_region rs) → AreDistinct number_of_open_region rs → IsPermutation rs (all_regions o)
    → map table_in_group o.groups.items ≡ (standing_of o.catalog).tables → All (IsGroupOf (data_at rs) (standing_of o.catalog).indexes) o.groups.items → IsOpenedRight o
opened_right o rs drawn right numbers once moved tables groups = record {
  drawn = drawn;
  right = right;
  tables = tables;
  groups = subst (λ (f : ℕ → RegionData). All (IsGroupOf f (standing_of o.catalog).indexes) o.groups.items) (sym (data_moved rs (all_regions o) moved once)) groups;
  numbers = numbers_moved (standing_of o.catalog) rs (all_regions o) drawn numbers moved;
  once = once_moved (standing_of o.catalog) rs (all_regions o) drawn numbers moved;
}

pub folder_moved : (o : Opened) (rs : List Region) → IsPermutation rs (all_regions o) → AreDistinct number_of_open_region rs → folder_in o ≡ folder_by (standing_of o.catalog) rs
folder_moved o rs moved once = λ i. record { standing = standing_of o.catalog; regions = data_moved rs (all_regions o) moved once i }

-- what holds of an answer, of which something is known
pub ok_with : {A E : Type 0} (P Q R : A → Type 0) → ((x : A) → P x → Q x → R x) → (r : Result A E) → IfOk r P → IfOk r Q → IfOk r R
ok_with P Q R to (Ok x) one two = to x one two
ok_with P Q R to (Err e) one two = tt

-- damage below is damage here
pub damaged_below : (e : StartFault) (file place : ℕ) → of_start e ≡ Damaged file place → e ≡ start.Damaged file place
damaged_below start.ReadFault file place is = absurd cc
damaged_below start.WriteFault file place is = absurd cc
damaged_below (start.Damaged f p) file place is = (let a : f ≡ file = cc in let b : p ≡ place = cc in λ i. start.Damaged (a i) (b i))
damaged_below start.Memory file place is = absurd cc
