-- A query has one answer.
use Rattle.std.proofs.Common.{◌≡◌, ◌↔◌, ◌⊎◌, ◌<◌, inl, inr, ℕ, zero, suc, List, [], ◌∷◌, length, map, get_or, refl, sym, ap, subst, ◌∙◌, arith}
use Rattle.std.specs.List.{Contains}
use Rattle.std.specs.Cmp.{IsTotalOrder}
use Rattle.std.specs.Ordering.{ordering_reverse}
use Rattle.std.specs.declared.cmp.Ordering.{Ordering}
use Rattle.std.specs.declared.cmp.Ordering.TheVariants.{Less, Equal, Greater}
use Rattle.std.proofs.lemmas.Cmp.{then_total, on_total, back_total}
use Rattle.px_values.specs.Compare.{compare_of}
use Rattle.px_values.specs.declared.order.Direction.{Direction}
use Rattle.px_values.specs.declared.order.Direction.TheVariants.{Ascending, Descending}
use Rattle.px_values.specs.declared.row.Value.{Value}
use Rattle.px_values.specs.declared.row.Value.TheVariants.{Null}
use Rattle.px_values.proofs.ValueOrder.{value_order_total, total_along}
use Rattle.px_tables.specs.declared.table.KeyPlace.{KeyPlace}
use Rattle.px_bind.specs.declared.request.Query.{Query}
use Rattle.px_paths.specs.declared.path.PathColumn.{PathColumn}
use Rattle.px_plan.specs.Answers.{by_order, by_path, comes_before, Ascends, row_answered, cut_off, IsAnswer}

-- ---- the order is total

direction_total : (d : Direction) → IsTotalOrder (compare_of d)
direction_total Ascending = total_along (λ a b. refl) value_order_total
direction_total Descending = total_along (λ a b. sym (value_order_total.antisymm b a)) (back_total value_order_total)

none_total : IsTotalOrder {K = List Value} (λ a b. Equal)
none_total = record { antisymm = λ x y. refl; trans = λ x y z h k. cc; congr = λ x y z h. refl }

order_total : (order : List KeyPlace) → IsTotalOrder (by_order order)
order_total [] = total_along (λ a b. refl) none_total
order_total (p ∷ order) =
    total_along (λ a b. refl) (then_total (on_total (λ (row : List Value). get_or row p.column Null) (direction_total p.direction)) (order_total order))

path_total : (path : List PathColumn) → IsTotalOrder (by_path path)
path_total [] = total_along (λ a b. refl) none_total
path_total (p ∷ path) =
    total_along (λ a b. refl) (then_total (on_total (λ (row : List Value). get_or row p.place Null) (direction_total p.column.direction)) (path_total path))

pub before_total : (q : Query) (path : List PathColumn) → IsTotalOrder (comes_before q path)
before_total q path = total_along (λ a b. refl) (then_total (order_total q.order) (path_total path))

-- ---- lists that ascend and have the same elements are the same

itself : (R : List Value → List Value → Ordering) → IsTotalOrder R → (x : List Value) → R x x ≡ Less → ⊥
itself R t x e = let a = t.antisymm x x in let z : ◌≡◌ {A = Ordering} Less Greater = sym e ∙ a ∙ ap ordering_reverse e in cc

pub here : (x : List Value) (xs : List (List Value)) → Contains (x ∷ xs) x
here x xs = (0, omega arith, refl)

pub there : (x y : List Value) (xs : List (List Value)) → Contains xs y → Contains (x ∷ xs) y
there x y xs h = let l = h.1 in (suc h.0, omega arith, h.2)

cases : (x z : List Value) (xs : List (List Value)) (k : ℕ) → k < length (x ∷ xs) → get_or (x ∷ xs) k z ≡ z → (x ≡ z) ⊎ Contains xs z
cases x z xs zero l e = inl e
cases x z xs (suc k) l e = inr (k, omega arith, e)

pub split : (x z : List Value) (xs : List (List Value)) → Contains (x ∷ xs) z → (x ≡ z) ⊎ Contains xs z
split x z xs h = cases x z xs h.0 h.1 h.2

pub nothing_in : (z : List Value) → Contains [] z → ⊥
nothing_in z h = let l = h.1 in omega arith

-- each later row is behind the first
later : (R : List Value → List Value → Ordering) → IsTotalOrder R → (x : List Value) (ys : List (List Value)) → Ascends R (x ∷ ys) → (z : List Value) → Contains ys z → R x z ≡ Less
later R t x [] a z c = absurd (nothing_in z c)
later R t x (y ∷ ys) a z c =
    let rest = later R t y ys a.1 z in elim (split y z ys c) [
      | inl e ↦ subst (λ (r : List Value). R x r ≡ Less) e a.0
      | inr d ↦ t.trans x y z a.0 (rest d)
    ]

others : (R : List Value → List Value → Ordering) (x : List Value) (ys : List (List Value)) → Ascends R (x ∷ ys) → Ascends R ys
others R x [] a = tt
others R x (y ∷ ys) a = a.1

pub same_rows : (R : List Value → List Value → Ordering) → IsTotalOrder R → (xs ys : List (List Value)) → Ascends R xs → Ascends R ys → ((z : List Value) → Contains xs z ↔ Contains ys z) → xs ≡ ys
same_rows R t [] [] a b h = refl
same_rows R t [] (y ∷ ys) a b h = absurd (nothing_in y ((h y).1 (here y ys)))
same_rows R t (x ∷ xs) [] a b h = absurd (nothing_in x ((h x).0 (here x xs)))
same_rows R t (x ∷ xs) (y ∷ ys) a b h =
    let first : x ≡ y = elim (split y x ys ((h x).0 (here x xs))) [
      | inl e ↦ sym e
      | inr c ↦ elim (split x y xs ((h y).1 (here y ys))) [
        | inl e ↦ e
        | inr d ↦ absurd (itself R t x (t.trans x y x (later R t x xs a y d) (later R t y ys b x c)))
      ]
    ] in
    let rest = same_rows R t xs ys (others R x xs a) (others R y ys b) (λ z. (
      λ c. elim (split y z ys ((h z).0 (there x z xs c))) [
        | inl e ↦ absurd (itself R t x (subst (λ (r : List Value). R x r ≡ Less) (sym (first ∙ e)) (later R t x xs a z c)))
        | inr d ↦ d
      ],
      λ c. elim (split x z xs ((h z).1 (there y z ys c))) [
        | inl e ↦ absurd (itself R t y (subst (λ (r : List Value). R y r ≡ Less) (sym (sym first ∙ e)) (later R t y ys b z c)))
        | inr d ↦ d
      ],
    )) in
    ap (λ (r : List Value). r ∷ xs) first ∙ ap (λ (rs : List (List Value)). y ∷ rs) rest

pub one_answer : (rows : List (List Value)) (q : Query) (path : List PathColumn) (one other : List (List Value)) → IsAnswer rows q path one → IsAnswer rows q path other → one ≡ other
one_answer rows q path one other a b =
    let same = same_rows (comes_before q path) (before_total q path) a.sorted b.sorted a.ascends b.ascends (λ z. (λ c. (b.selected z).1 ((a.selected z).0 c), λ c. (a.selected z).1 ((b.selected z).0 c))) in
    a.given ∙ ap (λ (rs : List (List Value)). map (row_answered q) (cut_off q.limit rs)) same ∙ sym b.given
