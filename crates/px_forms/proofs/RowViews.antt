-- What rows see of several rows' cells.
use Rattle.std.proofs.Common.{◌≡◌, ◌≢◌, ℕ, Bool, true, false, cond, not, ◌&&◌, ◌||◌, Option, Some, None, List, [], ◌∷◌, refl, ap, sym, ◌∙◌, subst, inl, inr}
use Rattle.std.specs.Prelude.{nat_eq, nat_lt, is_some}
use Rattle.std.specs.Cmp.Lexicographic.{pointwise}
use Rattle.std.specs.Ordering.{is_eq}
use Rattle.std.proofs.lemmas.Slice.Eq.{bytes_eq-Decides}
use Rattle.std.proofs.lemmas.Bool.{cases_Bool, cond-false, both_ways, and_parts, not-true}
use Rattle.px_cells.specs.declared.kind.CellKind.{CellKind}
use Rattle.px_cells.specs.declared.kind.CellKind.TheVariants.{Put, DeleteFamilyVersion, DeleteColumn, DeleteFamily}
use Rattle.px_values.specs.declared.row.Value.{Value}
use Rattle.px_cells.specs.CellData.{CellData}
use Rattle.px_values.proofs.Equal.{row_order-Decides}
use Rattle.px_values.specs.Order.{row_order}
use Rattle.px_trail.specs.Batches.{has, is_distinct}
use Rattle.px_world.specs.World.{Status, Absent, Unverified, Verified}
use Rattle.px_world.specs.Events.{put_over}
use Rattle.px_cells.specs.Contents.{Contents, stands_at, value_at}
use Rattle.px_world.specs.IndexCells.{IndexCells, no_cells, over, status_over}
use Rattle.px_forms.specs.Indexes.{view_of, status_in, IndexForm, IsIndexForm, view_at, cells_if}
use Rattle.px_forms.specs.Several.{AreOwned, cells_for}
use Rattle.px_forms.proofs.Views.{view_append, view_empty}
use Rattle.px_world.proofs.IndexCells.{same_cells}

-- keys compare alike both ways
pub bytes_swap : (a c : List ℕ) → pointwise nat_eq a c ≡ pointwise nat_eq c a
bytes_swap a c = elim (cases_Bool (pointwise nat_eq a c)) [
  | inl h ↦ h ∙ sym ((bytes_eq-Decides c a).1 (sym ((bytes_eq-Decides a c).0 h)))
  | inr h ↦ elim (cases_Bool (pointwise nat_eq c a)) [
    | inl g ↦ absurd (both_ways _ h ((bytes_eq-Decides a c).1 (sym ((bytes_eq-Decides c a).0 g))))
    | inr g ↦ h ∙ sym g
  ]
]

-- ---- a row sees nothing of another's cells

if_same : {A : Type 0} (v : Bool) (a c : A) → (v ≡ true → a ≡ c) → cond v a c ≡ c
if_same true a c e = e refl
if_same false a c e = refl

and_same : (v : Bool) (a : Bool) → (v ≡ true → a ≡ false) → (v && a) ≡ false
and_same true a e = e refl
and_same false a e = refl

-- at keys that the test finds, nothing stands
pub record IsNoneAt (owns : List ℕ → Bool) (g : Contents) : Type 0 where
  pub each : (k : List ℕ) (q s : ℕ) (d : CellKind) → owns k ≡ true → g k q s d ≡ None

pub view_none : (owns : List ℕ → Bool) (columns : ℕ) (place : ℕ → ℕ) (g : Contents) → IsNoneAt owns g → view_of owns columns place g ≡ no_cells
view_none owns columns place g n = same_cells (view_of owns columns place g) no_cells
    (λ k s. if_same (owns k) (status_in (g k 1 s Put)) Absent (λ o. ap status_in (n.each k 1 s Put o)))
    (λ k s c. if_same (owns k && nat_lt c columns) (g k (place c) s Put) None (λ o. n.each k (place c) s Put (and_parts (owns k) (nat_lt c columns) o).0))
    (λ k s c. and_same (owns k && nat_lt c columns) (is_some (g k (place c) s DeleteColumn)) (λ o. ap is_some (n.each k (place c) s DeleteColumn (and_parts (owns k) (nat_lt c columns) o).0)))
    (λ k s. and_same (owns k) (is_some (g k 0 s DeleteFamily)) (λ o. ap is_some (n.each k 0 s DeleteFamily o)))
    (λ k s. and_same (owns k) (is_some (g k 0 s DeleteFamilyVersion)) (λ o. ap is_some (n.each k 0 s DeleteFamilyVersion o)))

value_none : (f : IndexForm) → IsIndexForm f → (r r' : List Value) → r ≢ r' → (cells : List CellData) → AreOwned f r cells → (k : List ℕ) (q s : ℕ) (d : CellKind) → f.owns r' k ≡ true → value_at cells k q s d ≡ None
unfolding value_at
value_none f g r r' n [] a k q s d o = refl
value_none f g r r' n (c ∷ cells) a k q s d o =
    let rest = value_none f g r r' n cells a.1 k q s d o in
    elim (cases_Bool (stands_at k q s d c)) [
      | inl e ↦
          (let same : c.key ≡ k = (bytes_eq-Decides c.key k).0 (and_parts _ _ e).0 in
          absurd (n (g.apart r r' k (subst (λ (x : List ℕ). f.owns r x ≡ true) same a.0) o)))
      | inr e ↦ cond-false _ _ _ e ∙ rest
    ]

pub none_of_others : (f : IndexForm) → IsIndexForm f → (r r' : List Value) → r ≢ r' → (cells : List CellData) → AreOwned f r cells → IsNoneAt (f.owns r') (value_at cells)
none_of_others f g r r' n cells a = record { each = λ k q s d o. value_none f g r r' n cells a k q s d o }

pub others_view : (f : IndexForm) → IsIndexForm f → (r r' : List Value) → r ≢ r' → (cells : List CellData) → AreOwned f r cells → view_at f r' cells ≡ no_cells
others_view f g r r' n cells a = view_none (f.owns r') f.columns f.place (value_at cells) (none_of_others f g r r' n cells a)

-- ---- several rows' cells, one after another

pub over_none : {K X : Type 0} (v : IndexCells K X) → over v no_cells ≡ v
over_none v = same_cells (over v no_cells) v (λ k s. st (v.status k s)) (λ k s c. op (v.put k s c)) (λ k s c. bo (v.del k s c)) (λ k s. bo (v.fam k s)) (λ k s. bo (v.ver k s))
  where
    st : (x : Status) → status_over x Absent ≡ x
    st Absent = refl
    st Unverified = refl
    st Verified = refl

    op : {X : Type 0} (x : Option X) → put_over x None ≡ x
    op None = refl
    op (Some x) = refl

    bo : (x : Bool) → (x || false) ≡ x
    bo true = refl
    bo false = refl

-- each row sees its own cells, and no others
pub rows_view : (f : IndexForm) → IsIndexForm f → (m : List Value → List CellData) (seen : List Value → IndexCells (List ℕ) (List ℕ)) → ((r : List Value) → AreOwned f r (m r)) → ((r : List Value) → view_at f r (m r) ≡ seen r) → (rows : List (List Value)) → is_distinct rows ≡ true → (r : List Value) → view_at f r (cells_for m rows) ≡ cells_if (has rows r) (seen r)
unfolding cells_for has is_distinct
rows_view f g m seen own sees [] d r = view_empty f r
rows_view f g m seen own sees (x ∷ rows) d r =
    let parts = and_parts (not (has rows x)) (is_distinct rows) d in
    let rest = rows_view f g m seen own sees rows parts.1 r in
    view_append f r (m x) (cells_for m rows) ∙ elim (cases_Bool (is_eq (row_order x r))) [
      | inl e ↦
          (let same : x ≡ r = (row_order-Decides x r).0 e in
          let none : has rows r ≡ false = ap (has rows) (sym same) ∙ not-true (has rows x) parts.0 in
          rw e ((λ i. over (view_at f r (m (same i))) (rest i)) ∙ ((λ i. over (sees r i) (cells_if (none i) (seen r))) ∙ over_none (seen r))))
      | inr e ↦
          (let other : x ≢ r = λ q. both_ways _ e ((row_order-Decides x r).1 q) in
          rw e ((λ i. over (others_view f g x r other (m x) (own x) i) (rest i))))
    ]
