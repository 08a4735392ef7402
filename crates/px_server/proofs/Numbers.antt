-- Regions of groups: no two have one number.
use Rattle.std.proofs.Common.{◌≡◌, ◌≢◌, ◌<◌, inl, inr, ℕ, zero, suc, Bool, true, false, Option, Some, None, List, [], ◌∷◌, length, get_or, slice_get, refl, sym, ap, subst, ◌∙◌, arith}
use Rattle.std.specs.Prelude.{if◌then◌else◌, ◌==◌}
use Rattle.std.specs.List.{AllByRecursion}
use Rattle.std.proofs.Math.ListN.{set}
use Rattle.std.proofs.lemmas.Bool.{cases_eq, eq-eqb}
use Rattle.px_outside.specs.Parts.{AreDistinct, HasNone}
use Rattle.px_tables.specs.declared.index.Index.{Index}
use Rattle.px_tables.specs.declared.table.TableRegion.{TableRegion}
use Rattle.px_trail.specs.declared.entry.Entry.{Entry}
use Rattle.px_trail.specs.Trail.{Base, catalogue_of}
use Rattle.px_schema.specs.declared.standing.Standing.{Standing}
use Rattle.px_recovery.specs.Stands.{AreNumbered, TellsCatalogue, opened_index}
use Rattle.px_recovery.specs.Tables.{IsRegionAmong, index_in, indexes_of, region_of_index, table_in}
use Rattle.px_recovery.proofs.Lookups.{index_first, index_later}
use Rattle.px_region.specs.declared.region.Region.{Region}
use Rattle.px_group.specs.Group.{AreStanding, IsRightGroup, IsRightPart}
use Rattle.px_group.specs.declared.group.Group.{Group}
use Rattle.px_group.specs.declared.group.IndexRegion.{IndexRegion}
use Rattle.px_defined.specs.Defined.{AreOnceIn, HasOnce}
use Rattle.px_batching.proofs.Places.{all_at}
use Rattle.px_server.specs.Kept.{number_in}

-- ---- an index that is found

some_same : {A : Type 0} (x y : A) → Some x ≡ Some y → x ≡ y
some_same x y e = cc

found_first : (x y : Index) (xs : List Index) (q : ℕ) → x.id.0 ≡ q → index_in (x ∷ xs) q ≡ Some y → x ≡ y
found_first x y xs q here is = some_same x y (sym (index_first x xs q here) ∙ is)

found_later : (x y : Index) (xs : List Index) (q : ℕ) → x.id.0 ≢ q → index_in (x ∷ xs) q ≡ Some y → index_in xs q ≡ Some y
found_later x y xs q other is = sym (index_later x xs q other) ∙ is

-- none of a number is found
none_found : (n : ℕ) (xs : List Index) (q : ℕ) (y : Index) → HasNone region_of_index n xs → index_in xs q ≡ Some y → y.region ≢ n
unfolding index_in
none_found n [] q y none is = absurd cc
none_found n (x ∷ xs) q y none is = elim (cases_eq x.id.0 q) [
  | inl here ↦ subst (λ (z : Index). z.region ≢ n) (found_first x y xs q here is) none.0
  | inr other ↦ none_found n xs q y none.1 (found_later x y xs q other is)
]

-- two of one region are one
one_index : (xs : List Index) (p q : ℕ) (y z : Index) → AreDistinct region_of_index xs → index_in xs p ≡ Some y → index_in xs q ≡ Some z → y.region ≡ z.region → y ≡ z
unfolding index_in
one_index [] p q y z once a c same = absurd cc
one_index (x ∷ xs) p q y z once a c same = elim (cases_eq x.id.0 p) [
  | inl at_p ↦ elim (cases_eq x.id.0 q) [
    | inl at_q ↦ sym (found_first x y xs p at_p a) ∙ found_first x z xs q at_q c
    | inr past_q ↦ absurd (none_found x.region xs q z once.0 (found_later x z xs q past_q c) (sym (ap region_of_index (found_first x y xs p at_p a) ∙ same)))
  ]
  | inr past_p ↦ elim (cases_eq x.id.0 q) [
    | inl at_q ↦ absurd (none_found x.region xs p y once.0 (found_later x y xs p past_p a) (same ∙ sym (ap region_of_index (found_first x z xs q at_q c))))
    | inr past_q ↦ one_index xs p q y z once.1 (found_later x y xs p past_p a) (found_later x z xs q past_q c) same
  ]
]

-- it has a place among its table's
pub record HasPlace (t : ℕ) (xs : List Index) (y : Index) : Type 0 where
  pub place : ℕ
  pub inside : place < length (indexes_of t xs)
  pub is : get_or (indexes_of t xs) place y ≡ y

first_place : (t : ℕ) (x : Index) (xs : List Index) (y : Index) (c : Bool) → (x.table.0 == t) ≡ c → x ≡ y → y.table.0 ≡ t → HasPlace t (x ∷ xs) y
first_place t x xs y c its same own = (let
    yes : (x.table.0 == t) ≡ true = eq-eqb x.table.0 t (ap (λ (z : Index). z.table.0) same ∙ own)
    in let
    list : indexes_of t (x ∷ xs) ≡ x ∷ indexes_of t xs = ap (λ (b : Bool). if b then x ∷ indexes_of t xs else indexes_of t xs) yes
    in record {
      place = 0;
      inside = subst (λ (l : List Index). 0 < length l) (sym list) (omega arith);
      is = ap (λ (l : List Index). get_or l 0 y) list ∙ same;
    })

later_place : (t : ℕ) (x : Index) (xs : List Index) (y : Index) (c : Bool) → (x.table.0 == t) ≡ c → HasPlace t xs y → HasPlace t (x ∷ xs) y
later_place t x xs y true its h = (let
    list : indexes_of t (x ∷ xs) ≡ x ∷ indexes_of t xs = ap (λ (b : Bool). if b then x ∷ indexes_of t xs else indexes_of t xs) its
    in record {
      place = suc h.place;
      inside = subst (λ (l : List Index). suc h.place < length l) (sym list) (let i = h.inside in omega arith);
      is = ap (λ (l : List Index). get_or l (suc h.place) y) list ∙ h.is;
    })
later_place t x xs y false its h = (let
    list : indexes_of t (x ∷ xs) ≡ indexes_of t xs = ap (λ (b : Bool). if b then x ∷ indexes_of t xs else indexes_of t xs) its
    in record {
      place = h.place;
      inside = subst (λ (l : List Index). h.place < length l) (sym list) h.inside;
      is = ap (λ (l : List Index). get_or l h.place y) list ∙ h.is;
    })

pub has_place : (t : ℕ) (xs : List Index) (q : ℕ) (y : Index) → index_in xs q ≡ Some y → y.table.0 ≡ t → HasPlace t xs y
unfolding index_in
has_place t [] q y is own = absurd cc
has_place t (x ∷ xs) q y is own = elim (cases_eq x.id.0 q) [
  | inl here ↦ first_place t x xs y (x.table.0 == t) refl (found_first x y xs q here is) own
  | inr other ↦ later_place t x xs y (x.table.0 == t) refl (has_place t xs q y (found_later x y xs q other is) own)
]

-- ---- an index of a number is at one place

none_once : (xs : List IndexRegion) (j : ℕ) (x y : IndexRegion) → AllByRecursion (λ z. x.index.id.0 ≢ z.index.id.0) xs → slice_get xs j ≡ Some y → x.index.id.0 ≢ y.index.id.0
none_once xs j x y all at = all_at (λ z. x.index.id.0 ≢ z.index.id.0) xs j y at all

pub once_at : (xs : List IndexRegion) (i j : ℕ) (x y : IndexRegion) → AreOnceIn xs → slice_get xs i ≡ Some x → slice_get xs j ≡ Some y → x.index.id.0 ≡ y.index.id.0 → i ≡ j
once_at [] i j x y once a c same = absurd cc
once_at (z ∷ xs) zero zero x y once a c same = refl
once_at (z ∷ xs) zero (suc j) x y once a c same = absurd (none_once xs j z y once.0 c (ap (λ (w : IndexRegion). w.index.id.0) (some_same z x a) ∙ same))
once_at (z ∷ xs) (suc i) zero x y once a c same = absurd (none_once xs i z x once.0 a (ap (λ (w : IndexRegion). w.index.id.0) (some_same z y c) ∙ sym same))
once_at (z ∷ xs) (suc i) (suc j) x y once a c same = ap suc (once_at xs i j x y once.1 a c same)

-- ---- what stands on the disk of a group

-- the index, as the disk has it
pub record IsStored (s : Standing) (x : Index) : Type 0 where
  pub index : Index
  pub is : index_in s.indexes x.id.0 ≡ Some index
  pub id : index.id ≡ x.id
  pub table : index.table ≡ x.table
  pub region : index.region ≡ x.region

stored_by : (s : Standing) (x : Index) (o : Option Index) → index_in s.indexes x.id.0 ≡ o → opened_index o ≡ opened_index (Some x) → IsStored s x
stored_by s x None is same = absurd cc
stored_by s x (Some y) is same = (let
    e : Some y.id ≡ Some x.id = ap (λ (o : Option Index). id_in o) same
    in let
    t : Some y.table ≡ Some x.table = ap (λ (o : Option Index). table_of_index o) same
    in let
    r : Some y.region ≡ Some x.region = ap (λ (o : Option Index). region_in o) same
    in record { index = y; is = is; id = cc; table = cc; region = cc })
  where
    id_in : Option Index → Option Rattle.px_values.specs.declared.name.IndexId.IndexId
    id_in None = None
    id_in (Some z) = Some z.id

    table_of_index : Option Index → Option Rattle.px_values.specs.declared.name.TableId.TableId
    table_of_index None = None
    table_of_index (Some z) = Some z.table

    region_in : Option Index → Option ℕ
    region_in None = None
    region_in (Some z) = Some z.region

module _ (b : Base) (es : List Entry) (s : Standing) (tells : TellsCatalogue s (catalogue_of b es)) where
  pub stored_index : (g : Group) → AreStanding b es g → (i : ℕ) (x : IndexRegion) → slice_get g.indexes.items i ≡ Some x → IsStored s x.index
  stored_index g k i x at = stored_by s x.index (index_in s.indexes x.index.id.0) refl (tells.indexes x.index.id.0 ∙ ap opened_index (k.index i x at))

  pub stored_table : (g : Group) → AreStanding b es g → table_in s.tables (number_in g) ≡ Some g.table
  stored_table g k = tells.tables (number_in g) ∙ k.table

pub rows_one : (g : Group) → IsRightGroup g → IsRegionAmong g.rows.number g.table.regions
rows_one g r = subst (λ (l : List TableRegion). IsRegionAmong g.rows.number l) (sym r.region) (inl refl)

pub part_at : (g : Group) → IsRightGroup g → (i : ℕ) (x : IndexRegion) → slice_get g.indexes.items i ≡ Some x → IsRightPart g.table x
part_at g r i x at = all_at (IsRightPart g.table) g.indexes.items i x at r.parts

-- no region of the group has the number
pub record LacksNumber (n : ℕ) (g : Group) : Type 0 where
  pub rows : g.rows.number ≢ n
  pub indexes : (i : ℕ) (x : IndexRegion) → slice_get g.indexes.items i ≡ Some x → x.region.number ≢ n

module _ (b : Base) (es : List Entry) (s : Standing) (tells : TellsCatalogue s (catalogue_of b es)) (numbered : AreNumbered s) (g : Group) (right : IsRightGroup g) (standing : AreStanding b es g) where
  abbrev own : table_in s.tables (number_in g) ≡ Some g.table
  own = stored_table b es s tells g standing

  -- the region of an index
  pub index_apart_rows : (h : Group) → IsRightGroup h → AreStanding b es h → (i : ℕ) (x : IndexRegion) → slice_get g.indexes.items i ≡ Some x → h.rows.number ≢ x.region.number
  index_apart_rows h r k i x at same = (let
      y = stored_index b es s tells g standing i x at
      in none_found h.rows.number s.indexes x.index.id.0 y.index (numbered.apart (number_in h) h.rows.number h.table (stored_table b es s tells h k) (rows_one h r)) y.is (y.region ∙ ((part_at g right i x at).number ∙ sym same)))

  -- two indexes of one region are one
  pub index_same : (h : Group) → IsRightGroup h → AreStanding b es h → (i : ℕ) (x : IndexRegion) → slice_get g.indexes.items i ≡ Some x → (j : ℕ) (z : IndexRegion) → slice_get h.indexes.items j ≡ Some z → z.region.number ≡ x.region.number → (z.index.id ≡ x.index.id) × (z.index.table ≡ x.index.table)
  index_same h r k i x at j z there same = (let
      y = stored_index b es s tells g standing i x at
      in let
      w = stored_index b es s tells h k j z there
      in let
      one : w.index ≡ y.index = one_index s.indexes z.index.id.0 x.index.id.0 w.index y.index numbered.indexes w.is y.is (w.region ∙ ((part_at h r j z there).number ∙ (same ∙ (sym (part_at g right i x at).number ∙ sym y.region))))
      in (sym w.id ∙ (ap (λ (q : Index). q.id) one ∙ y.id), sym w.table ∙ (ap (λ (q : Index). q.table) one ∙ y.table)))

  -- those of another group
  module _ (h : Group) (r : IsRightGroup h) (k : AreStanding b es h) (other : number_in h ≢ number_in g) where
    rows_apart_rows : h.rows.number ≢ g.rows.number
    rows_apart_rows same = other (numbered.tables (number_in h) (number_in g) g.rows.number h.table g.table (stored_table b es s tells h k) own (subst (λ (n : ℕ). IsRegionAmong n h.table.regions) same (rows_one h r)) (rows_one g right))

    rows_apart_index : (j : ℕ) (z : IndexRegion) → slice_get h.indexes.items j ≡ Some z → z.region.number ≢ g.rows.number
    rows_apart_index j z there same = (let
        w = stored_index b es s tells h k j z there
        in none_found g.rows.number s.indexes z.index.id.0 w.index (numbered.apart (number_in g) g.rows.number g.table own (rows_one g right)) w.is (w.region ∙ ((part_at h r j z there).number ∙ same)))

    pub lacks_rows : LacksNumber g.rows.number h
    lacks_rows = record { rows = rows_apart_rows; indexes = rows_apart_index }

    pub lacks_index : (i : ℕ) (x : IndexRegion) → slice_get g.indexes.items i ≡ Some x → LacksNumber x.region.number h
    lacks_index i x at = record {
      rows = index_apart_rows h r k i x at;
      indexes = λ j z there same. (let
          one = index_same h r k i x at j z there same
          in other (ap (λ t. t.0) (sym (part_at h r j z there).table ∙ (one.1 ∙ (part_at g right i x at).table))));
    }

  -- the other regions of the group itself
  pub rows_lack : (i : ℕ) (x : IndexRegion) → slice_get g.indexes.items i ≡ Some x → x.region.number ≢ g.rows.number
  rows_lack i x at same = index_apart_rows g right standing i x at (sym same)

  pub index_lack : HasOnce g → (i : ℕ) (x : IndexRegion) → slice_get g.indexes.items i ≡ Some x → (j : ℕ) (z : IndexRegion) → slice_get g.indexes.items j ≡ Some z → j ≢ i → z.region.number ≢ x.region.number
  index_lack once i x at j z there apart same = apart (once_at g.indexes.items j i z x once there at (ap (λ q. q.0) (index_same g right standing i x at j z there same).0))

-- ---- each index has a number of its own, also where a region is another one

pub same_once : (g g' : Group) → g'.indexes.items ≡ g.indexes.items → HasOnce g → HasOnce g'
same_once g g' same once = subst AreOnceIn (sym same) once

none_set : (n : ℕ) (xs : List IndexRegion) (i : ℕ) (x y : IndexRegion) → slice_get xs i ≡ Some x → y.index ≡ x.index → AllByRecursion (λ z. n ≢ z.index.id.0) xs → AllByRecursion (λ z. n ≢ z.index.id.0) (set xs i y)
none_set n [] i x y at same all = tt
none_set n (z ∷ xs) zero x y at same all = (subst (λ (q : Index). n ≢ q.id.0) (ap (λ (w : IndexRegion). w.index) (some_same z x at) ∙ sym same) all.0, all.1)
none_set n (z ∷ xs) (suc i) x y at same all = (all.0, none_set n xs i x y at same all.1)

once_set : (xs : List IndexRegion) (i : ℕ) (x y : IndexRegion) → slice_get xs i ≡ Some x → y.index ≡ x.index → AreOnceIn xs → AreOnceIn (set xs i y)
once_set [] i x y at same once = tt
once_set (z ∷ xs) zero x y at same once = (subst (λ (q : Index). AllByRecursion (λ w. q.id.0 ≢ w.index.id.0) xs) (ap (λ (w : IndexRegion). w.index) (some_same z x at) ∙ sym same) once.0, once.1)
once_set (z ∷ xs) (suc i) x y at same once = (none_set z.index.id.0 xs i x y at same once.0, once_set xs i x y at same once.1)

pub set_once : (g g' : Group) (i : ℕ) (x : IndexRegion) (new : Region) → slice_get g.indexes.items i ≡ Some x → g'.indexes.items ≡ set g.indexes.items i (record x { region = new }) → HasOnce g → HasOnce g'
set_once g g' i x new at indexes once = subst AreOnceIn (sym indexes) (once_set g.indexes.items i x (record x { region = new }) at refl once)
