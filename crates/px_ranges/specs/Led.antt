-- How the values of a row begin.
use Rattle.std.specs.Prelude.{◌≡◌, ◌≢◌, ◌⊎◌, ◌&&◌, ℕ, Bool, true, false, not, nat_eq, nat_le, List, [], ◌∷◌, length, take, drop, Option, Some, None}
use Rattle.std.specs.List.{list_all}
use Rattle.std.specs.Str.{is_utf8}
use Rattle.std.specs.declared.cmp.Ordering.{Ordering}
use Rattle.std.specs.declared.cmp.Ordering.TheVariants as o
use Rattle.px_values.specs.Limits.{most_text}
use Rattle.px_values.specs.Order.{value_order}
use Rattle.px_values.specs.Types.{type_class}
use Rattle.px_values.specs.declared.column.ColType.{ColType}
use Rattle.px_values.specs.declared.row.Value.{Value}
use Rattle.px_values.specs.declared.row.Value.TheVariants.{Null, Number, Truth, Text}
use Rattle.px_keys.specs.declared.parts.KeyColumn.{KeyColumn}
use Rattle.px_ranges.specs.declared.leading.Edge.{Edge}
use Rattle.px_ranges.specs.declared.leading.Span.{Span}
use Rattle.px_ranges.specs.declared.leading.Leading.{Leading}

-- ---- a row begins so

-- a value that stands so to the value of an edge is on its inner side
abbrev pub Inside : Ordering → Bool → Ordering → Type 0
Inside side included order = (order ≡ side) ⊎ ((included ≡ true) × (order ≡ o.Equal))

abbrev pub IsOver : Option Edge → Value → Type 0
IsOver None v = Unit {0}
IsOver (Some edge) v = Inside o.Greater edge.included (value_order v edge.value)

abbrev pub IsUnder : Option Edge → Value → Type 0
IsUnder None v = Unit {0}
IsUnder (Some edge) v = Inside o.Less edge.included (value_order v edge.value)

-- NULL is in no span
abbrev pub IsIn : Span → Value → Type 0
IsIn span v = (v ≢ Null) × IsOver span.lower v × IsUnder span.upper v

-- the first of these is in the span
abbrev pub FirstIsIn : Option Span → List Value → Type 0
FirstIsIn None vs = Unit {0}
FirstIsIn (Some span) [] = ⊥
FirstIsIn (Some span) (v ∷ vs) = IsIn span v

-- the row begins with the equal values, and its next value is in the span
abbrev pub IsLed : Leading → List Value → Type 0
IsLed l row = (take (length l.equal) row ≡ l.equal) × FirstIsIn l.span (drop (length l.equal) row)

-- ---- values that bound a column

-- a text of 1 to 65,535 bytes in UTF-8 without U+0000
abbrev pub is_column_text : List ℕ → Bool
is_column_text bytes = nat_le 1 (length bytes) && (nat_le (length bytes) most_text && (list_all (λ b. not (nat_eq b 0)) bytes && is_utf8 bytes))

-- a value can be the edge of a column's span: any number of a number column, and else a value of its type; never NULL
abbrev pub can_bound : ColType → Value → Bool
can_bound ty Null = false
can_bound ty (Number n) = nat_eq (type_class ty) 1
can_bound ty (Truth t) = nat_eq (type_class ty) 2
can_bound ty (Text bytes) = nat_eq (type_class ty) 3 && is_column_text bytes

abbrev pub EdgeIsFor : KeyColumn → Option Edge → Type 0
EdgeIsFor column None = Unit {0}
EdgeIsFor column (Some edge) = can_bound column.ty edge.value ≡ true

-- there is a column for each equal value and for the span, and its edges can bound that column
abbrev pub IsFor : List KeyColumn → List Value → Option Span → Type 0
IsFor (column ∷ columns) (v ∷ vs) span = IsFor columns vs span
IsFor (column ∷ columns) [] (Some span) = EdgeIsFor column span.lower × EdgeIsFor column span.upper
IsFor columns [] None = Unit {0}
IsFor [] [] (Some span) = ⊥
IsFor [] (v ∷ vs) span = ⊥
