-- The order by the parts of a key is total, and rows that it calls equal are the same: it is an order of lists of pairs, where a value
-- stands on the left of its pair if its part goes up, and on the right, where the order is turned, if it goes down.
use Rattle.std.proofs.Common.{◌≡◌, List, [], ◌∷◌, refl, sym, ap, ◌∙◌}
use Rattle.std.specs.Cmp.{IsTotalOrder}
use Rattle.std.specs.Cmp.Lexicographic.{slice_cmp}
use Rattle.std.specs.Ordering.{flip_args, is_eq, on, ordering_reverse, ordering_then, then_cmp}
use Rattle.std.specs.declared.cmp.Ordering.{Ordering}
use Rattle.std.specs.declared.cmp.Ordering.TheVariants.{Less, Equal, Greater}
use Rattle.std.proofs.lemmas.Cmp.{then_total, on_total, back_total, lists_total}
use Rattle.px_values.specs.Compare.{compare_of}
use Rattle.px_values.specs.Order.{value_order}
use Rattle.px_values.specs.declared.order.Direction.{Direction}
use Rattle.px_values.specs.declared.order.Direction.TheVariants.{Ascending, Descending}
use Rattle.px_values.specs.declared.row.Value.{Value}
use Rattle.px_values.specs.declared.row.Value.TheVariants.{Null}
use Rattle.px_values.proofs.Equal.{value_order-Decides}
use Rattle.px_values.proofs.ValueOrder.{total_along, value_order_total}
use Rattle.px_tables.specs.declared.table.KeyPlace.{KeyPlace}
use Rattle.px_removals.specs.Removals.{first_direction, key_order, later_parts}

tag : Direction → Value → Value × Value
tag Ascending x = (x, Null)
tag Descending x = (Null, x)

tagged : List KeyPlace → List Value → List (Value × Value)
tagged key [] = []
tagged key (x ∷ xs) = tag (first_direction key) x ∷ tagged (later_parts key) xs

abbrev left_of : Value × Value → Value
left_of v = v.0

abbrev right_of : Value × Value → Value
right_of v = v.1

abbrev pair_order : Value × Value → Value × Value → Ordering
pair_order = then_cmp (on left_of value_order) (on right_of (flip_args value_order))

pair_order_total : IsTotalOrder pair_order
pair_order_total = then_total (on_total left_of value_order_total) (on_total right_of (back_total value_order_total))

then_none : (o : Ordering) → o ≡ ordering_then o Equal
then_none Less = refl
then_none Equal = refl
then_none Greater = refl

one_is : (d : Direction) (x y : Value) → compare_of d x y ≡ pair_order (tag d x) (tag d y)
unfolding tag
one_is Ascending x y = then_none (value_order x y)
one_is Descending x y = sym (value_order_total.antisymm y x)

both_are : (a b c d : Ordering) → a ≡ b → c ≡ d → ordering_then a c ≡ ordering_then b d
both_are a b c d e h = ap (λ (o : Ordering). ordering_then o c) e ∙ ap (λ (o : Ordering). ordering_then b o) h

is_of_pairs : (key : List KeyPlace) (xs ys : List Value) → key_order key xs ys ≡ slice_cmp pair_order (tagged key xs) (tagged key ys)
unfolding tagged
is_of_pairs key [] [] = refl
is_of_pairs key [] (y ∷ ys) = refl
is_of_pairs key (x ∷ xs) [] = refl
is_of_pairs key (x ∷ xs) (y ∷ ys) =
    let d = first_direction key in
    let rest = later_parts key in
    both_are (compare_of d x y) (pair_order (tag d x) (tag d y)) (key_order rest xs ys) (slice_cmp pair_order (tagged rest xs) (tagged rest ys)) (one_is d x y) (is_of_pairs rest xs ys)

pub key_order_total : (key : List KeyPlace) → IsTotalOrder (key_order key)
key_order_total key = total_along (is_of_pairs key) (on_total (tagged key) (lists_total pair_order_total))

-- ---- rows that it calls equal

then_equal : (o q : Ordering) → ordering_then o q ≡ Equal → (o ≡ Equal) × (q ≡ Equal)
then_equal Less q h = cc
then_equal Equal q h = (refl, h)
then_equal Greater q h = cc

turned_equal : (o : Ordering) → ordering_reverse o ≡ Equal → o ≡ Equal
turned_equal Less h = cc
turned_equal Equal h = refl
turned_equal Greater h = cc

same_value : (d : Direction) (x y : Value) → compare_of d x y ≡ Equal → x ≡ y
same_value Ascending x y h = (value_order-Decides x y).0 (ap is_eq h)
same_value Descending x y h = (value_order-Decides x y).0 (ap is_eq (turned_equal (value_order x y) h))

pub same_row : (key : List KeyPlace) (xs ys : List Value) → key_order key xs ys ≡ Equal → xs ≡ ys
same_row key [] [] h = refl
same_row key [] (y ∷ ys) h = cc
same_row key (x ∷ xs) [] h = cc
same_row key (x ∷ xs) (y ∷ ys) h =
    let both = then_equal (compare_of (first_direction key) x y) (key_order (later_parts key) xs ys) h in
    let head : x ≡ y = same_value (first_direction key) x y both.0 in
    let tail : xs ≡ ys = same_row (later_parts key) xs ys both.1 in
    cc

less_than_itself : (P : Type 0) (o : Ordering) → o ≡ ordering_reverse o → o ≡ Less → P
less_than_itself P Less t h = cc
less_than_itself P Equal t h = cc
less_than_itself P Greater t h = cc

-- a row that comes before another isn't that one
pub other_row : (P : Type 0) (key : List KeyPlace) (xs ys : List Value) → key_order key xs ys ≡ Less → xs ≡ ys → P
other_row P key xs ys h e =
    let one : key_order key xs xs ≡ Less = ap (λ (r : List Value). key_order key xs r) e ∙ h in
    less_than_itself P (key_order key xs xs) ((key_order_total key).antisymm xs xs) one
