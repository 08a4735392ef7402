-- Which index of a point is asked for.
use Rattle.std.proofs.Common.{◌≡◌, ℕ, zero, suc, ◌-◌, ◌<◌, ◌≤◌, max, Bool, true, false, Option, Some, None, List, [], ◌∷◌, length, take, drop, refl, sym, ap, subst, ◌∙◌, inl, inr, arith}
use Rattle.std.specs.Prelude.{◌↔◌, ◌==◌, get_or, if◌then◌else◌, slice_get}
use Rattle.std.proofs.lemmas.Bool.{cases_Bool}
use Rattle.std.proofs.lemmas.Bool.Decides.{nat_tests}
use Rattle.px_calls.specs.Requires.{CanConsult, CanLook, CanReadBy, IsReadable, index_among, index_of_found}
use Rattle.px_calls.specs.declared.query.By.{By}
use Rattle.px_calls.specs.declared.query.By.TheVariants.{Index as ByIndex, Table as ByTable}
use Rattle.px_calls.specs.declared.query.Doubt.{Doubt}
use Rattle.px_calls.specs.declared.query.Path.{Path}
use Rattle.px_calls.specs.declared.query.Point.{Point}
use Rattle.px_indexrow.specs.Form.{row_of_index}
use Rattle.px_indexrow.specs.declared.doubt.Repair.{Repair}
use Rattle.px_indexrow.specs.declared.doubt.Repair.TheVariants.{Leave}
use Rattle.px_keys.specs.Reading.{IsKey}
use Rattle.px_openbatches.specs.Pending.{HeldBatch}
use Rattle.px_paths.specs.Paths.{columns_on, index_path}
use Rattle.px_shown.specs.Told.{reach_of}
use Rattle.px_tables.specs.declared.index.Index.{Index}
use Rattle.px_tables.specs.declared.index.IndexState.TheVariants.{Active}
use Rattle.px_tables.specs.declared.table.Table.{Table}
use Rattle.px_trail.specs.Trail.{Base, horizon_of}
use Rattle.px_trail.specs.declared.entry.Entry.{Entry}
use Rattle.px_values.specs.Limits.{most_key}
use Rattle.px_values.specs.declared.name.IndexId.{IndexId}
use Rattle.px_group.specs.Group.{IsTallied}
use Rattle.px_group.specs.declared.group.Group.{Group}
use Rattle.px_group.specs.declared.group.IndexRegion.{IndexRegion}
use Rattle.px_reading.specs.Doubts.{IsKeyIn, is_pending}
use Rattle.px_reading.specs.Looked.{HasLooked}
use Rattle.px_reading.proofs.Looked.{no_look, no_looks}
use Rattle.px_pointreads.specs.Points.{IsPartAt, IsReadAt}

same_number : (a b : ℕ) → a ≡ b → (a == b) ≡ true
same_number a b e = grind (arith, nat_tests)

other_number : (a b : ℕ) → (a ≡ b → ⊥) → (a == b) ≡ false
other_number a b n = grind (arith, nat_tests)

number_is : (a b : ℕ) → (a == b) ≡ true → a ≡ b
number_is a b e = grind (arith, nat_tests)

pub among_none : (i : ℕ) (xs : List Index) → length xs ≤ 0 → None ≡ index_among i xs
unfolding index_among
among_none i [] l = refl
among_none i (x ∷ xs) l = absurd (omega arith)

pub among_here : (i : IndexId) (xs : List Index) (x d : Index) → 1 ≤ length xs → x ≡ get_or xs 0 d → x.id ≡ i → Some x ≡ index_among i.0 xs
unfolding index_among
among_here i [] x d l is same = absurd (omega arith)
among_here i (y ∷ ys) x d l is same = ap Some is ∙ ap (λ (b : Bool). if b then Some y else index_among i.0 ys) (sym (same_number y.id.0 i.0 (ap (λ (z : Index). z.id.0) (sym is) ∙ ap (λ (j : IndexId). j.0) same)))

take_all : (xs : List Index) → take (length xs) xs ≡ xs
take_all [] = refl
take_all (x ∷ xs) = ap (λ (l : List Index). x ∷ l) (take_all xs)

pub among_on : (i : IndexId) (xs : List Index) (x d : Index) → 1 ≤ length xs → x ≡ get_or xs 0 d → (x.id ≡ i → ⊥) → index_among i.0 (take (length xs - 1) (drop 1 xs)) ≡ index_among i.0 xs
unfolding index_among
among_on i [] x d l is other = absurd (omega arith)
among_on i (y ∷ ys) x d l is other =
    (let n : length (y ∷ ys) - 1 ≡ length ys = omega arith in
    ap (λ (m : ℕ). index_among i.0 (take m ys)) n ∙ (ap (index_among i.0) (take_all ys)
    ∙ ap (λ (b : Bool). if b then Some y else index_among i.0 ys) (sym (other_number y.id.0 i.0 (λ e. other (ap (λ (z : Index). z.id) is ∙ (λ j. record { 0 = e j })))))))

-- what is found has the number
among_id : (i : ℕ) (xs : List Index) (x : Index) → index_among i xs ≡ Some x → x.id.0 ≡ i
unfolding index_among
among_id i [] x e = absurd (let z : ◌≡◌ {A = Option Index} None (Some x) = e in cc)
among_id i (y ∷ ys) x e = elim (cases_Bool (y.id.0 == i)) [
  | inl b ↦
      (let same : y ≡ x = some_same y x (ap (λ (v : Bool). if v then Some y else index_among i ys) (sym b) ∙ e) in
      ap (λ (z : Index). z.id.0) (sym same) ∙ number_is y.id.0 i b)
  | inr b ↦ among_id i ys x (ap (λ (v : Bool). if v then Some y else index_among i ys) (sym b) ∙ e)
]
  where
    some_same : (a b : Index) → Some a ≡ Some b → a ≡ b
    some_same a b e = cc

-- a part with this definition is the point's index
pub part_of : (p : Point) (i : IndexId) (wanted : Index) → Some wanted ≡ index_among i.0 p.found.indexes → (x : IndexRegion) → x.index ≡ wanted → x.index.birth ≤ reach_of p → IsPartAt p i x
part_of p i wanted is x same born =
    (let number : x.index.id.0 ≡ i.0 = ap (λ (y : Index). y.id.0) same ∙ among_id i.0 p.found.indexes wanted (sym is) in
    record {
      id = λ j. record { 0 = number j };
      at = ap (λ (n : ℕ). index_among n p.found.indexes) number ∙ (sym is ∙ ap Some (sym same));
      born = born;
    })

same_index : (a b : Index) → Some a ≡ Some b → a ≡ b
same_index a b e = cc

pub index_is : (i j : IndexId) → ByIndex i ≡ ByIndex j → i ≡ j
index_is i j e = cc

pub no_index : (i : IndexId) → ByTable ≡ ByIndex i → ⊥
no_index i e = (let z : ◌≡◌ {A = By} ByTable (ByIndex i) = e in cc)

-- ---- what is read there

pub there_is : (xs : List IndexRegion) (i : ℕ) → i < length xs → (x : IndexRegion) × (slice_get xs i ≡ Some x)
there_is [] i l = absurd (omega arith)
there_is (x ∷ xs) zero l = (x, refl)
there_is (x ∷ xs) (suc i) l = there_is xs i (omega arith)

-- the part that was found, in the list that was looked through
pub record IsFound (p : Point) (i : IndexId) (xs : List IndexRegion) (place : ℕ) : Type 0 where
  pub within : place < length xs
  pub part : (x : IndexRegion) → slice_get xs place ≡ Some x → IsPartAt p i x

pub found_in : (p : Point) (i : IndexId) (xs ys : List IndexRegion) (place : ℕ) → ys ≡ xs → place < length ys → ((x : IndexRegion) → slice_get ys place ≡ Some x → IsPartAt p i x) → IsFound p i xs place
found_in p i xs ys place same l part = subst (λ (zs : List IndexRegion). IsFound p i zs place) same (record { within = l; part = part })

pub not_looked : (g : Group) → HasLooked g g
not_looked g = record {
  table = refl;
  rows = no_look g.rows;
  indexes = no_looks g.indexes.items;
  batches = refl;
  points = refl;
  last = refl;
  horizon = refl;
}

module _ (g : Group) (p : Point) (read : IsReadAt g p) (i : IndexId) (x : IndexRegion) (part : IsPartAt p i x) where
  -- a doubt's key is one of the index
  pub key_at : (d : Doubt) → d.index ≡ i → CanConsult p d → IsKeyIn g x d.key
  key_at d same can =
      (let number : d.index.0 ≡ x.index.id.0 = ap (λ (j : IndexId). j.0) (same ∙ sym part.id) in
      let index : can.index ≡ x.index = same_index can.index x.index (sym can.is ∙ (ap (λ (n : ℕ). index_among n p.found.indexes) number ∙ part.at)) in
      subst (λ (y : Index). IsKey most_key (columns_on (index_path g.table y)) d.key) index (subst (λ (t : Table). IsKey most_key (columns_on (index_path t can.index)) d.key) read.of.found can.key))

  pub active_at : (path : Path) → path.by ≡ ByIndex i → CanLook p path → x.index.state ≡ Active
  active_at path by can =
      (let readable : IsReadable p (index_of_found p.found i.0) = subst (CanReadBy p) by can in
      let here : index_of_found p.found i.0 ≡ Some x.index = ap (λ (j : IndexId). index_among j.0 p.found.indexes) (sym part.id) ∙ part.at in
      (subst (IsReadable p) here readable).0)

  module _ (b : Base) (es : List Entry) (hs : List HeldBatch) (tallied : IsTallied b es g hs) (point : ℕ) (point_is : point ≡ reach_of p) where
    pub above_rows : horizon_of b g.table.id.0 es ≤ point
    above_rows = (let a = read.above in let h = tallied.horizon in omega arith)

    pub above_keys : max x.index.birth (horizon_of b g.table.id.0 es) ≤ point
    above_keys = (let a = read.above in let h = tallied.horizon in let c = part.born in omega arith)

-- a version is left alone exactly where its change is in flight
pub pending_leave : (g : Group) (place : ℕ) (x : IndexRegion) (k : List ℕ) (d : Doubt) (verdict : Repair) {P : Type 0} → k ≡ d.key → (verdict ≡ Leave) ↔ (is_pending g d.stamp (row_of_index g.table x.index k) ≡ true)
    → (is_pending g d.stamp (row_of_index g.table x.index d.key) ≡ true → P) → (P → is_pending g d.stamp (row_of_index g.table x.index d.key) ≡ true) → (verdict ≡ Leave) ↔ P
pending_leave g place x k d verdict same leave to from =
    (let row : is_pending g d.stamp (row_of_index g.table x.index k) ≡ is_pending g d.stamp (row_of_index g.table x.index d.key) = ap (λ (z : List ℕ). is_pending g d.stamp (row_of_index g.table x.index z)) same in
    (λ e. to (sym row ∙ leave.0 e), λ f. leave.1 (row ∙ from f)))
