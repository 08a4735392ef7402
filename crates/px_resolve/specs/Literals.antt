-- Literals as values, and what is wrong with one.
use Rattle.std.specs.Prelude.{ℕ, zero, suc, Bool, true, false, if◌then◌else◌, ◌||◌, ◌-◌, ◌^◌, not, nat_eq, nat_lt, min, List, [], ◌∷◌, ◌++◌, length, ℤ, pos, neg_ℤ, int_lt}
use Rattle.std.specs.List.{list_any}
use Rattle.std.specs.Str.{IsUtf8}
use Rattle.std.specs.Str.Parse.{digits_value}
use Rattle.px_values.specs.Limits.{most_text}
use Rattle.px_values.specs.Order.{class_of}
use Rattle.px_values.specs.Types.{type_class, least_of, greatest_of}
use Rattle.px_values.specs.declared.column.ColType.{ColType}
use Rattle.px_values.specs.declared.row.Value.{Value}
use Rattle.px_values.specs.declared.row.Value.TheVariants.{Null, Number, Truth, Text}
use Rattle.px_ast.specs.declared.literal.Constant.{Constant}
use Rattle.px_ast.specs.declared.literal.Constant.TheVariants as constants
use Rattle.px_ast.specs.declared.literal.Literal.{Literal}
use Rattle.px_resolve.specs.declared.fault.BindFault.{BindFault}
use Rattle.px_resolve.specs.declared.fault.BindFault.TheVariants.{Mismatch, OutOfRange}

-- what digits write, up to the greatest number of 127 bits: 38 digits write a smaller one
abbrev pub number_of_digits : List ℕ → ℕ
number_of_digits digits = min (digits_value 10 digits) (2 ^ 127 - 1)

abbrev pub signed : Bool → ℕ → ℤ
signed true n = neg_ℤ (pos n)
signed false n = pos n

-- the empty text is NULL
abbrev pub text_of : List ℕ → Value
text_of [] = Null
text_of (b ∷ bytes) = Text (b ∷ bytes)

-- the value that a literal is
abbrev pub value_of_literal : Constant → Value
value_of_literal (constants.Number number) = Number (signed number.negative (number_of_digits number.digits))
value_of_literal (constants.Text bytes) = text_of bytes
value_of_literal (constants.Truth t) = Truth t
value_of_literal constants.Null = Null

-- two classes that can't be compared; NULL, of class 0, can be with each
abbrev pub differ : ℕ → ℕ → Bool
differ zero b = false
differ (suc a) zero = false
differ (suc a) (suc b) = not (nat_eq a b)

-- a text that no column can have: too long, or with U+0000
abbrev pub is_bad_text : Value → Bool
is_bad_text (Text bytes) = nat_lt most_text (length bytes) || list_any (λ b. nat_eq b 0) bytes
is_bad_text v = false

-- a number that a column of this type can't have
abbrev pub is_outside : ColType → Value → Bool
is_outside ty (Number n) = int_lt n (least_of ty) || int_lt (greatest_of ty) n
is_outside ty v = false

abbrev pub is_null : Value → Bool
is_null Null = true
is_null v = false

abbrev pub mismatch_if : Bool → ℕ → List BindFault
mismatch_if wrong place = if wrong then Mismatch place ∷ [] else []

abbrev pub range_if : Bool → ℕ → List BindFault
range_if wrong place = if wrong then OutOfRange place ∷ [] else []

-- the faults of a literal that is to be a value of a column of this type
abbrev pub literal_faults : ColType → Literal → List BindFault
literal_faults ty literal =
    mismatch_if (differ (type_class ty) (class_of (value_of_literal literal.constant))) literal.place
    ++ range_if (is_outside ty (value_of_literal literal.constant) || is_bad_text (value_of_literal literal.constant)) literal.place

-- the text in a value is UTF-8
abbrev pub HasText : Value → Type 0
HasText (Text bytes) = IsUtf8 bytes
HasText v = Unit {0}
