-- A group that was looked at is as it was.
use Rattle.std.proofs.Common.{◌≡◌, ℕ, zero, suc, ◌<◌, ◌≤◌, Some, None, List, [], ◌∷◌, length, set, get_or, refl, ap, sym, subst, ◌∙◌, arith}
use Rattle.std.specs.List.{AllByRecursion, slice_get}
use Rattle.px_cellshapes.specs.Keys.{AreRightKeys}
use Rattle.px_cellshapes.specs.Rows.{AreRightRows}
use Rattle.px_forms.specs.Indexes.{IndexForm}
use Rattle.px_groupworld.specs.Group.{GroupData, IndexPart}
use Rattle.px_indexrow.specs.Form.{IsRightIndex, index_form}
use Rattle.px_openbatches.specs.Pending.{HeldBatch}
use Rattle.px_region.specs.Promise.{IsAlike, IsSamePromise}
use Rattle.px_region.proofs.Alike.{alike_refl, alike_then}
use Rattle.px_region.specs.Region.{read_of}
use Rattle.px_region.specs.declared.region.Region.{Region}
use Rattle.px_tables.specs.declared.index.Index.{Index}
use Rattle.px_tables.specs.declared.table.Table.{Table}
use Rattle.px_trail.specs.Trail.{Base, index_of}
use Rattle.px_trail.specs.declared.entry.Entry.{Entry}
use Rattle.px_group.specs.Group.{AreRightParts, IsPartOf, IsRightBatch, IsRightGroup, IsRightPart, IsShownBy, IsTallied, is_built}
use Rattle.px_group.specs.Room.{HasPromised, closes_for, marks_for}
use Rattle.px_group.specs.declared.group.Begun.{Begun}
use Rattle.px_group.specs.declared.group.Group.{Group}
use Rattle.px_group.specs.declared.group.IndexRegion.{IndexRegion}
use Rattle.px_reading.specs.Looked.{AreLookedAt, HasLooked, IsLookedAt}

-- ---- indexes one by one

pub looked_length : (xs ys : List IndexRegion) → AreLookedAt xs ys → length ys ≡ length xs
looked_length [] [] h = refl
looked_length [] (y ∷ ys) h = absurd h
looked_length (x ∷ xs) [] h = absurd h
looked_length (x ∷ xs) (y ∷ ys) h = ap suc (looked_length xs ys h.1)

-- an index of the one and that of the other
pub record Looked (x y : IndexRegion) : Type 0 where
  pub index : y.index ≡ x.index
  pub region : IsLookedAt x.region y.region

get_same : {A : Type 0} (a b : A) → Some a ≡ Some b → a ≡ b
get_same a b e = cc

pub looked_back : (xs ys : List IndexRegion) → AreLookedAt xs ys → (i : ℕ) (y : IndexRegion) → slice_get ys i ≡ Some y → (x : IndexRegion) × ((slice_get xs i ≡ Some x) × Looked x y)
looked_back [] [] h i y e = absurd (let z : None ≡ Some y = e in cc)
looked_back [] (z ∷ ys) h i y e = absurd h
looked_back (x ∷ xs) [] h i y e = absurd h
looked_back (x ∷ xs) (z ∷ ys) h zero y e = (x, (refl, subst (Looked x) (get_same z y e) (record { index = h.0.0; region = h.0.1 })))
looked_back (x ∷ xs) (z ∷ ys) h (suc i) y e = looked_back xs ys h.1 i y e

pub looked_on : (xs ys : List IndexRegion) → AreLookedAt xs ys → (i : ℕ) (x : IndexRegion) → slice_get xs i ≡ Some x → (y : IndexRegion) × ((slice_get ys i ≡ Some y) × Looked x y)
looked_on [] [] h i x e = absurd (let z : None ≡ Some x = e in cc)
looked_on [] (z ∷ ys) h i x e = absurd h
looked_on (z ∷ xs) [] h i x e = absurd h
looked_on (z ∷ xs) (y ∷ ys) h zero x e = (y, (refl, subst (λ (w : IndexRegion). Looked w y) (get_same z x e) (record { index = h.0.0; region = h.0.1 })))
looked_on (z ∷ xs) (y ∷ ys) h (suc i) x e = looked_on xs ys h.1 i x e

right_part : (t : Table) (x y : IndexRegion) → Looked x y → IsRightPart t x → IsRightPart t y
right_part t x y l k = record {
  index = subst (IsRightIndex t) (sym l.index) k.index;
  table = ap (λ (i : Index). i.table) l.index ∙ k.table;
  number = ap (λ (i : Index). i.region) l.index ∙ k.number ∙ sym l.region.alike.number;
  maintained = λ e. k.maintained (sym (ap (λ (i : Index). i.state) l.index) ∙ e);
  keys = subst (λ (i : Index). AreRightKeys t i (read_of y.region)) (sym l.index) (subst (AreRightKeys t x.index) (sym l.region.alike.store) k.keys);
}

right_parts : (t : Table) (xs ys : List IndexRegion) → AreLookedAt xs ys → AllByRecursion (IsRightPart t) xs → AllByRecursion (IsRightPart t) ys
right_parts t [] [] h a = tt
right_parts t [] (y ∷ ys) h a = absurd h
right_parts t (x ∷ xs) [] h a = absurd h
right_parts t (x ∷ xs) (y ∷ ys) h a = (right_part t x y (record { index = h.0.0; region = h.0.1 }) a.0, right_parts t xs ys h.1 a.1)

has_promised : (old new : Region) (cells bytes : ℕ) → IsLookedAt old new → HasPromised old cells bytes → HasPromised new cells bytes
has_promised old new cells bytes l h = (let a = l.promised.cells in let b = l.promised.bytes in (subst (λ (n : ℕ). cells ≤ n) (sym a) h.0, subst (λ (n : ℕ). bytes ≤ n) (sym b) h.1))

module _ (g g' : Group) (looked : HasLooked g g') where
  -- the group with what was looked at
  abbrev h : Group
  h = record g { rows = g'.rows; indexes = g'.indexes }

  same : g' ≡ h
  same = (λ i. record { table = looked.table i; rows = g'.rows; indexes = g'.indexes; batches = looked.batches i; points = looked.points i; last = looked.last i; horizon = looked.horizon i })

  right_batch : (m : Begun) → IsRightBatch g m → IsRightBatch h m
  right_batch m k = record {
    marks = k.marks;
    closes = k.closes;
    fit = k.fit;
    distinct = k.distinct;
    some = k.some;
    few = k.few;
    stage = k.stage;
    rows = k.rows;
    receipt = k.receipt;
    count = (let n = looked_length g.indexes.items g'.indexes.items looked.indexes in subst (λ (c : ℕ). m.count ≤ c) (sym n) k.count);
    shaped = record {
      puts = k.shaped.puts;
      marks = λ i y e. (let z = looked_back g.indexes.items g'.indexes.items looked.indexes i y e in subst (λ (j : Index). AreRightParts g.table j (marks_for i m)) (sym z.1.1.index) (k.shaped.marks i z.0 z.1.0));
      closes = λ i y e. (let z = looked_back g.indexes.items g'.indexes.items looked.indexes i y e in subst (λ (j : Index). AreRightParts g.table j (closes_for i m)) (sym z.1.1.index) (k.shaped.closes i z.0 z.1.0));
    };
  }

  all_map : {A : Type 0} (P Q : A → Type 0) → ((a : A) → P a → Q a) → (as' : List A) → AllByRecursion P as' → AllByRecursion Q as'
  all_map P Q f [] k = tt
  all_map P Q f (a ∷ as') k = (f a k.0, all_map P Q f as' k.1)

  pub still_right : IsRightGroup g → IsRightGroup g'
  still_right k = subst IsRightGroup (sym same) (record {
    table = k.table;
    region = k.region ∙ ap (λ (n : ℕ). record { number = n; least_key = [] } ∷ []) (sym looked.rows.alike.number);
    rows = subst (AreRightRows g.table) (sym looked.rows.alike.store) k.rows;
    parts = right_parts g.table g.indexes.items g'.indexes.items looked.indexes k.parts;
    batches = all_map (IsRightBatch g) (IsRightBatch h) right_batch g.batches.items k.batches;
    rooms = record {
      rows = has_promised g.rows g'.rows _ _ looked.rows k.rooms.rows;
      indexes = λ i y e. (let z = looked_back g.indexes.items g'.indexes.items looked.indexes i y e in has_promised z.0.region y.region _ _ z.1.1.region (k.rooms.indexes i z.0 z.1.0));
      light = k.rooms.light;
    };
  })

  pub still_tallied : (b : Base) (es : List Entry) (hs : List HeldBatch) → IsTallied b es g hs → IsTallied b es g' hs
  still_tallied b es hs k = subst (λ (z : Group). IsTallied b es z hs) (sym same) (record {
    standing = record {
      table = k.standing.table;
      index = λ i y e.
          (let z = looked_back g.indexes.items g'.indexes.items looked.indexes i y e in
          subst (λ (j : Index). index_of b es j.id.0 ≡ Some j) (sym z.1.1.index) (k.standing.index i z.0 z.1.0));
      all = λ y stands of maintained.
          (let z = k.standing.all y stands of maintained in
          let w = looked_on g.indexes.items g'.indexes.items looked.indexes z.0 z.1.0 z.1.1.0 in
          (z.0, (w.0, (w.1.0, w.1.1.index ∙ z.1.1.1))));
    };
    last = k.last;
    horizon = k.horizon;
    held = k.held;
    batches = k.batches;
    phases = k.phases;
    points = k.points;
  })

  part_of : (p : IndexPart) (x y : IndexRegion) → Looked x y → IsPartOf p x → IsPartOf p y
  part_of p x y l k = record {
    id = k.id ∙ ap (λ (i : Index). i.id.0) (sym l.index);
    cells = k.cells ∙ sym l.region.alike.store;
    birth = k.birth ∙ ap (λ (i : Index). i.birth) (sym l.index);
    built = k.built ∙ ap (λ (i : Index). is_built i.state) (sym l.index);
  }

  pub still_shown : (b : Base) (index : ℕ → IndexForm) (es : List Entry) (v : GroupData) (hs : List HeldBatch) → IsShownBy b index es g v hs → IsShownBy b index es g' v hs
  still_shown b index es v hs k = subst (λ (z : Group). IsShownBy b index es z v hs) (sym same) (record {
    kept = k.kept;
    rows = k.rows ∙ sym looked.rows.alike.store;
    count = k.count ∙ sym (looked_length g.indexes.items g'.indexes.items looked.indexes);
    parts = λ i y e. (let z = looked_back g.indexes.items g'.indexes.items looked.indexes i y e in part_of _ z.0 y z.1.1 (k.parts i z.0 z.1.0));
    forms = λ i y e. (let z = looked_back g.indexes.items g'.indexes.items looked.indexes i y e in subst (λ (j : Index). index j.id.0 ≡ index_form g.table j) (sym z.1.1.index) (k.forms i z.0 z.1.0));
  })

-- ---- one look after another

same_look : (a b c : Region) → IsLookedAt a b → IsLookedAt b c → IsLookedAt a c
same_look a b c k l = record {
  alike = alike_then a b c k.alike l.alike;
  promised = record { cells = l.promised.cells ∙ k.promised.cells; bytes = l.promised.bytes ∙ k.promised.bytes };
}

pub no_look : (a : Region) → IsLookedAt a a
no_look a = record {
  alike = alike_refl a;
  promised = record { cells = refl; bytes = refl };
}

same_looks : (xs ys zs : List IndexRegion) → AreLookedAt xs ys → AreLookedAt ys zs → AreLookedAt xs zs
same_looks [] [] [] k l = tt
same_looks [] [] (z ∷ zs) k l = l
same_looks [] (y ∷ ys) zs k l = absurd k
same_looks (x ∷ xs) [] zs k l = absurd k
same_looks (x ∷ xs) (y ∷ ys) [] k l = absurd l
same_looks (x ∷ xs) (y ∷ ys) (z ∷ zs) k l = ((l.0.0 ∙ k.0.0, same_look x.region y.region z.region k.0.1 l.0.1), same_looks xs ys zs k.1 l.1)

pub no_looks : (xs : List IndexRegion) → AreLookedAt xs xs
no_looks [] = tt
no_looks (x ∷ xs) = ((refl, no_look x.region), no_looks xs)

pub looked_then : (g h j : Group) → HasLooked g h → HasLooked h j → HasLooked g j
looked_then g h j k l = record {
  table = l.table ∙ k.table;
  rows = same_look g.rows h.rows j.rows k.rows l.rows;
  indexes = same_looks g.indexes.items h.indexes.items j.indexes.items k.indexes l.indexes;
  batches = l.batches ∙ k.batches;
  points = l.points ∙ k.points;
  last = l.last ∙ k.last;
  horizon = l.horizon ∙ k.horizon;
}

-- one index is looked at
one_look : (xs : List IndexRegion) (i : ℕ) → i < length xs → (d part y : IndexRegion) → part ≡ get_or xs i d → y.index ≡ part.index → IsLookedAt part.region y.region → AreLookedAt xs (set xs i y)
one_look [] i m d part y e n l = absurd (omega arith)
one_look (x ∷ xs) zero m d part y e n l = ((n ∙ ap (λ (z : IndexRegion). z.index) e, subst (λ (z : IndexRegion). IsLookedAt z.region y.region) e l), no_looks xs)
one_look (x ∷ xs) (suc i) m d part y e n l = ((refl, no_look x.region), one_look xs i (omega arith) d part y e n l)

pub looked_index : (g : Group) (i : ℕ) → i < length g.indexes.items → (d part : IndexRegion) → part ≡ get_or g.indexes.items i d → (region : Region) → IsAlike part.region region → IsSamePromise part.region region → AreLookedAt g.indexes.items (set g.indexes.items i (record { index = part.index; region = region }))
looked_index g i m d part e region a p = one_look g.indexes.items i m d part (record { index = part.index; region = region }) e refl (record { alike = a; promised = p })

-- ---- one of them

pub all_at : {A : Type 0} (P : A → Type 0) (xs : List A) → AllByRecursion P xs → (i : ℕ) → i < length xs → (d : A) → P (get_or xs i d)
all_at P [] a i l d = absurd (omega arith)
all_at P (x ∷ xs) a zero l d = a.0
all_at P (x ∷ xs) a (suc i) l d = all_at P xs a.1 i (omega arith) d

any_same : {A : Type 0} (y x : A) → Some y ≡ Some x → y ≡ x
any_same y x e = cc

pub got : {A : Type 0} (xs : List A) (i : ℕ) (x d : A) → slice_get xs i ≡ Some x → get_or xs i d ≡ x
got [] i x d e = absurd (let z : None ≡ Some x = e in cc)
got (y ∷ xs) zero x d e = any_same y x e
got (y ∷ xs) (suc i) x d e = got xs i x d e

pub part_at : {A : Type 0} (P : A → Type 0) (xs : List A) → AllByRecursion P xs → (i : ℕ) (x : A) → slice_get xs i ≡ Some x → P x
part_at P [] a i x e = absurd (let z : None ≡ Some x = e in cc)
part_at P (y ∷ xs) a zero x e = subst P (any_same y x e) a.0
part_at P (y ∷ xs) a (suc i) x e = part_at P xs a.1 i x e
