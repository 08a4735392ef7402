-- What conjuncts say of a path is a range of its keys: each edge can bound its column.
use Rattle.std.proofs.Common.{◌≡◌, ℕ, Bool, true, false, List, [], ◌∷◌, refl, sym, subst, ◌∙◌, Option, Some, None}
use Rattle.px_values.specs.declared.row.Value.{Value}
use Rattle.px_ast.specs.declared.condition.Comparison.TheVariants as c
use Rattle.px_expr.specs.declared.bound.Term.TheVariants.{Column, Value as Given}
use Rattle.px_expr.specs.declared.bound.Test.{Test}
use Rattle.px_expr.specs.declared.bound.Test.TheVariants.{Compare, Between}
use Rattle.px_expr.specs.declared.bound.Bound.{Bound, Or', And', Not'}
use Rattle.px_expr.specs.declared.bound.Bound.TheVariants as bounds
use Rattle.px_ranges.specs.Led.{EdgeIsFor, IsFor, can_bound}
use Rattle.px_ranges.specs.declared.leading.Edge.{Edge}
use Rattle.px_paths.specs.declared.path.PathColumn.{PathColumn}
use Rattle.px_conjuncts.specs.Conjuncts.{at_column, edge, equal_in, lower_in, told_by, upper_in}
use Rattle.px_conjuncts.specs.Paths.{first_told, leading_of, led_by, or_first, span_between, without_first}
use Rattle.px_conjuncts.proofs.TestSays.{at_place, from_beside}
use Rattle.px_paths.specs.Paths.{columns_on}

edge_can : (p : PathColumn) (i : Bool) (v : Value) (e : Edge) → edge p i v ≡ Some e → can_bound p.column.ty e.value ≡ true
edge_can p i v e h = by_test (can_bound p.column.ty v) refl
  where
    value_is : (x y : Edge) → ◌≡◌ {A = Option Edge} (Some x) (Some y) → x.value ≡ y.value
    value_is x y e = cc

    by_test : (b : Bool) → can_bound p.column.ty v ≡ b → can_bound p.column.ty e.value ≡ true
    by_test true t =
        let is : edge p i v ≡ Some (record { value = v; included = i }) = rw t refl in subst (λ (x : Value). can_bound p.column.ty x ≡ true) (value_is (record { value = v; included = i }) e (sym is ∙ h)) t
    by_test false t = absurd (let n : edge p i v ≡ None = rw t refl in let z : ◌≡◌ {A = Option Edge} None (Some e) = sym n ∙ h in cc)

placed_can : (p : PathColumn) (place : ℕ) (i : Bool) (v : Value) (e : Edge) → at_column p place (edge p i v) ≡ Some e → can_bound p.column.ty e.value ≡ true
placed_can p place i v e h = edge_can p i v e (at_place p place (edge p i v) e h).1

lower_can : (p : PathColumn) (t : Test) (e : Edge) → lower_in p t ≡ Some e → can_bound p.column.ty e.value ≡ true
lower_can p (Compare c.Greater (Column place) (Given v)) e h = placed_can p place false v e h
lower_can p (Compare c.GreaterEqual (Column place) (Given v)) e h = placed_can p place true v e h
lower_can p (Between (Column place) false (Given a) (Given b)) e h = placed_can p place true a e (from_beside p place a b e h)
lower_can p t e h = cc

upper_can : (p : PathColumn) (t : Test) (e : Edge) → upper_in p t ≡ Some e → can_bound p.column.ty e.value ≡ true
upper_can p (Compare c.Less (Column place) (Given v)) e h = placed_can p place false v e h
upper_can p (Compare c.LessEqual (Column place) (Given v)) e h = placed_can p place true v e h
upper_can p (Between (Column place) false (Given a) (Given b)) e h = placed_can p place true b e (from_beside p place b a e h)
upper_can p t e h = cc

told_can : (p : PathColumn) (f : Test → Option Edge) → ((t : Test) (e : Edge) → f t ≡ Some e → can_bound p.column.ty e.value ≡ true) → (b : Bound) (e : Edge) → told_by f b ≡ Some e → can_bound p.column.ty e.value ≡ true
told_can p f g (bounds.Test t) e h = g t e h
told_can p f g (And' shape parts) e h = cc
told_can p f g (Or' shape parts) e h = cc
told_can p f g (Not' shape part) e h = cc

first_can : (p : PathColumn) (f : Test → Option Edge) → ((t : Test) (e : Edge) → f t ≡ Some e → can_bound p.column.ty e.value ≡ true) → (bs : List Bound) → EdgeIsFor p.column (first_told f bs)
first_can p f g [] = tt
first_can p f g (b ∷ bs) = by_told (first_can p f g bs) (told_by f b) refl
  where
    by_told : EdgeIsFor p.column (first_told f bs) → (o : Option Edge) → told_by f b ≡ o → EdgeIsFor p.column (first_told f (b ∷ bs))
    by_told rest (Some e) t = subst (λ (o : Option Edge). EdgeIsFor p.column (or_first o (first_told f bs))) (sym t) (told_can p f g b e t)
    by_told rest None t = subst (λ (o : Option Edge). EdgeIsFor p.column (or_first o (first_told f bs))) (sym t) rest

spanned : (p : PathColumn) (path : List PathColumn) (l u : Option Edge) → EdgeIsFor p.column l → EdgeIsFor p.column u → IsFor (columns_on (p ∷ path)) [] (span_between l u)
spanned p path None None h k = tt
spanned p path (Some a) None h k = (h, k)
spanned p path None (Some b) h k = (h, k)
spanned p path (Some a) (Some b) h k = (h, k)

pub leading_is_for : (path : List PathColumn) (bs : List Bound) → IsFor (columns_on path) (leading_of path bs).equal (leading_of path bs).span
leading_is_for [] bs = tt
leading_is_for (p ∷ path) bs = by_told (leading_is_for path (without_first (equal_in p) bs)) (first_told (equal_in p) bs) refl
  where
    by_told : (let more = leading_of path (without_first (equal_in p) bs) in IsFor (columns_on path) more.equal more.span) → (o : Option Value) → first_told (equal_in p) bs ≡ o → IsFor (columns_on (p ∷ path)) (leading_of (p ∷ path) bs).equal (leading_of (p ∷ path) bs).span
    by_told rest o t =
        let more = leading_of path (without_first (equal_in p) bs) in
        let s = span_between (first_told (lower_in p) bs) (first_told (upper_in p) bs) in
        subst (λ (x : Option Value). IsFor (columns_on (p ∷ path)) (led_by x more s).equal (led_by x more s).span) (sym t) (each o rest)
      where
        each : (o : Option Value) → (let more = leading_of path (without_first (equal_in p) bs) in IsFor (columns_on path) more.equal more.span) → (let more = leading_of path (without_first (equal_in p) bs) in let s = span_between (first_told (lower_in p) bs) (first_told (upper_in p) bs) in IsFor (columns_on (p ∷ path)) (led_by o more s).equal (led_by o more s).span)
        each (Some v) rest = rest
        each None rest = spanned p path (first_told (lower_in p) bs) (first_told (upper_in p) bs) (first_can p (lower_in p) (lower_can p) bs) (first_can p (upper_in p) (upper_can p) bs)
