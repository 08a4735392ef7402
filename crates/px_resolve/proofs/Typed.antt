-- A literal in which nothing is wrong is a value of its column's type.
use Rattle.std.proofs.Common.{◌≡◌, ◌≢◌, ◌≤ℤ◌, ◌||◌, ℕ, Bool, true, false, List, [], ◌∷◌, length, ℤ, refl, arith, int_lt, nat_lt, nat_eq}
use Rattle.std.proofs.lemmas.Bool.{ltb-false, eqb-false}
use Rattle.std.proofs.lemmas.Int.{ints}
use Rattle.std.proofs.lemmas.List.Elements.{All-from_recursion}
use Rattle.std.specs.List.{AllByRecursion, list_any}
use Rattle.px_ast.specs.declared.literal.Constant.{Constant}
use Rattle.px_ast.specs.declared.literal.Constant.TheVariants as constants
use Rattle.px_ast.specs.declared.literal.Literal.{Literal}
use Rattle.px_values.specs.Limits.{most_text}
use Rattle.px_values.specs.Order.{class_of}
use Rattle.px_values.specs.Types.{HasType, type_class, least_of, greatest_of}
use Rattle.px_values.specs.declared.column.ColType.{ColType}
use Rattle.px_values.specs.declared.column.ColType.TheVariants as types
use Rattle.px_values.specs.declared.row.Value.{Value}
use Rattle.px_values.specs.declared.row.Value.TheVariants.{Null, Number, Truth, Text}
use Rattle.px_resolve.specs.Literals.{HasText, differ, is_bad_text, is_outside, literal_faults, mismatch_if, range_if, value_of_literal}
use Rattle.px_resolve.proofs.Walks.{no_front, no_rest}

at_least : (a b : ℤ) → int_lt a b ≡ false → b ≤ℤ a
at_least a b e = grind (arith, ints)

or_first : (a b : Bool) → (a || b) ≡ false → a ≡ false
or_first true b e = absurd cc
or_first false b e = refl

or_second : (a b : Bool) → (a || b) ≡ false → b ≡ false
or_second true b e = absurd cc
or_second false b e = e

no_zeros : (bytes : List ℕ) → list_any (λ b. nat_eq b 0) bytes ≡ false → AllByRecursion (λ b. b ≢ 0) bytes
no_zeros [] e = tt
no_zeros (b ∷ bytes) e = (eqb-false b 0 (or_first (nat_eq b 0) _ e), no_zeros bytes (or_second (nat_eq b 0) _ e))

no_mismatch : (wrong : Bool) (place : ℕ) → mismatch_if wrong place ≡ [] → wrong ≡ false
no_mismatch true place e = absurd cc
no_mismatch false place e = refl

no_range : (wrong : Bool) (place : ℕ) → range_if wrong place ≡ [] → wrong ≡ false
no_range true place e = absurd cc
no_range false place e = refl

-- a value of a column's class, within its range, that is no text which none can have
has_type : (ty : ColType) (v : Value) → differ (type_class ty) (class_of v) ≡ false → is_outside ty v ≡ false → is_bad_text v ≡ false → HasText v → v ≢ Text [] → HasType ty v
has_type ty Null class range bad utf8 some = tt
has_type ty (Number n) class range bad utf8 some =
    (number ty class, (at_least n (least_of ty) (or_first (int_lt n (least_of ty)) _ range), at_least (greatest_of ty) n (or_second (int_lt n (least_of ty)) _ range)))
  where
    number : (ty : ColType) → differ (type_class ty) 1 ≡ false → type_class ty ≡ 1
    number types.Boolean e = absurd cc
    number types.Varchar e = absurd cc
    number types.TinyInt e = refl
    number types.SmallInt e = refl
    number types.Integer e = refl
    number types.BigInt e = refl
    number types.UnsignedInt e = refl
    number types.UnsignedLong e = refl
has_type ty (Truth t) class range bad utf8 some = truth ty class
  where
    truth : (ty : ColType) → differ (type_class ty) 2 ≡ false → type_class ty ≡ 2
    truth types.Boolean e = refl
    truth types.Varchar e = absurd cc
    truth types.TinyInt e = absurd cc
    truth types.SmallInt e = absurd cc
    truth types.Integer e = absurd cc
    truth types.BigInt e = absurd cc
    truth types.UnsignedInt e = absurd cc
    truth types.UnsignedLong e = absurd cc
has_type ty (Text []) class range bad utf8 some = absurd (some refl)
has_type ty (Text (b ∷ bytes)) class range bad utf8 some = (
  text ty class,
  record {
    utf8 = utf8;
    least = omega arith;
    most = ltb-false most_text (length (b ∷ bytes)) (or_first (nat_lt most_text (length (b ∷ bytes))) _ bad);
    no_zero = All-from_recursion (λ b. b ≢ 0) (b ∷ bytes) (no_zeros (b ∷ bytes) (or_second (nat_lt most_text (length (b ∷ bytes))) _ bad));
  },
)
  where
    text : (ty : ColType) → differ (type_class ty) 3 ≡ false → type_class ty ≡ 3
    text types.Varchar e = refl
    text types.Boolean e = absurd cc
    text types.TinyInt e = absurd cc
    text types.SmallInt e = absurd cc
    text types.Integer e = absurd cc
    text types.BigInt e = absurd cc
    text types.UnsignedInt e = absurd cc
    text types.UnsignedLong e = absurd cc

never_empty : (c : Constant) → value_of_literal c ≢ Text []
never_empty (constants.Number n) e = cc
never_empty (constants.Text []) e = cc
never_empty (constants.Text (b ∷ bytes)) e = cc
never_empty (constants.Truth t) e = cc
never_empty constants.Null e = cc

pub literal_has_type : (ty : ColType) (l : Literal) → literal_faults ty l ≡ [] → HasText (value_of_literal l.constant) → HasType ty (value_of_literal l.constant)
literal_has_type ty l none utf8 =
    let v : Value = value_of_literal l.constant in
    let class : differ (type_class ty) (class_of v) ≡ false = no_mismatch _ l.place (no_front (mismatch_if (differ (type_class ty) (class_of v)) l.place) _ none) in
    let range : (is_outside ty v || is_bad_text v) ≡ false = no_range _ l.place (no_rest (mismatch_if (differ (type_class ty) (class_of v)) l.place) _ none) in
    has_type ty v class (or_first (is_outside ty v) _ range) (or_second (is_outside ty v) _ range) utf8 (never_empty l.constant)
