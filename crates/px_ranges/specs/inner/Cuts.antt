-- Places between keys, and where a range begins and ends.
use Rattle.std.specs.Prelude.{◌≡◌, ◌≢◌, ◌⊎◌, ℕ, Bool, true, false, not, if◌then◌else◌, ◌||◌, int_lt, List, [], ◌∷◌, ◌++◌, Option, Some, None}
use Rattle.std.specs.Cmp.Lexicographic.{slice_cmp}
use Rattle.std.specs.Option.{option_copied, option_to_list}
use Rattle.std.specs.Ordering.{nat_cmp}
use Rattle.std.specs.declared.cmp.Ordering.TheVariants as o
use Rattle.px_values.specs.Types.{HasType, least_of, greatest_of}
use Rattle.px_values.specs.declared.order.Direction.TheVariants.{Ascending, Descending}
use Rattle.px_values.specs.declared.order.Direction.{Direction}
use Rattle.px_values.specs.declared.row.Value.{Value}
use Rattle.px_values.specs.declared.row.Value.TheVariants.{Null, Number}
use Rattle.px_keys.specs.Range.{IsPrefix}
use Rattle.px_keys.specs.Spelling.{FitsColumn, spelled}
use Rattle.px_keys.specs.declared.parts.KeyColumn.{KeyColumn}
use Rattle.px_ranges.specs.declared.cuts.Beside.{Beside}
use Rattle.px_ranges.specs.declared.leading.Edge.{Edge}
use Rattle.px_ranges.specs.declared.leading.Span.{Span}
use Rattle.px_ranges.specs.declared.leading.Leading.{Leading}

-- ---- places between keys

-- Before all keys that begin with these values, or behind them.
pub record Cut : Type 0 where
  pub values : List Value
  pub behind : Bool

-- the key stands before the cut
abbrev pub StandsBefore : List KeyColumn → List ℕ → Cut → Type 0
StandsBefore columns key cut =
    let front = spelled columns cut.values in
    (slice_cmp nat_cmp key front ≡ o.Less) ⊎ ((cut.behind ≡ true) × IsPrefix front key)

-- bytes below these, where there are any
abbrev pub IsBelow : List ℕ → Option (List ℕ) → Type 0
IsBelow key None = Unit {0}
IsBelow key (Some high) = slice_cmp nat_cmp key high ≡ o.Less

-- behind or before the keys that begin with this value
abbrev pub beside : Value → Bool → Cut
beside v behind = record { values = v ∷ []; behind = behind }

-- before all keys, and behind them
abbrev pub all_begin : Cut
all_begin = record { values = []; behind = false }

abbrev pub all_end : Cut
all_end = record { values = []; behind = true }

-- Where the keys of a span begin, by the direction of its column, whether it may be NULL, and the two edges. NULL is cut off.
abbrev pub start_of : Direction → Bool → Option Edge → Option Edge → Cut
start_of Ascending nullable (Some lower) upper = beside lower.value (not lower.included)
start_of Ascending true None upper = beside Null true
start_of Ascending false None upper = all_begin
start_of Descending nullable lower (Some upper) = beside upper.value (not upper.included)
start_of Descending nullable lower None = all_begin

-- and where they end
abbrev pub cut_end : Direction → Bool → Option Edge → Option Edge → Cut
cut_end Ascending nullable lower (Some upper) = beside upper.value upper.included
cut_end Ascending nullable lower None = all_end
cut_end Descending nullable (Some lower) upper = beside lower.value lower.included
cut_end Descending true None upper = beside Null false
cut_end Descending false None upper = all_end

-- a cut among the keys whose first value is this
abbrev pub within : Value → Cut → Cut
within v cut = record { values = v ∷ cut.values; behind = cut.behind }

-- where the keys of rows begin whose first values are these, and the next in the span; and where they end
abbrev pub low_of : List KeyColumn → List Value → Option Span → Cut
low_of (column ∷ columns) (v ∷ vs) span = within v (low_of columns vs span)
low_of (column ∷ columns) [] (Some span) = start_of column.direction column.may_be_null span.lower span.upper
low_of columns vs span = all_begin

abbrev pub high_of : List KeyColumn → List Value → Option Span → Cut
high_of (column ∷ columns) (v ∷ vs) span = within v (high_of columns vs span)
high_of (column ∷ columns) [] (Some span) = cut_end column.direction column.may_be_null span.lower span.upper
high_of columns vs span = all_end

-- the key is in the range
abbrev pub IsKeyInRange : List KeyColumn → Leading → List ℕ → Type 0
IsKeyInRange columns l key = (StandsBefore columns key (low_of columns l.equal l.span) → ⊥) × StandsBefore columns key (high_of columns l.equal l.span)

-- ---- what a range asks of its values: they are values of the columns

abbrev pub FitsEdge : KeyColumn → Option Edge → Type 0
FitsEdge column None = Unit {0}
FitsEdge column (Some edge) = HasType column.ty edge.value × (edge.value ≢ Null)

abbrev pub FitsSpan : KeyColumn → Span → Type 0
FitsSpan column span = FitsEdge column span.lower × FitsEdge column span.upper

abbrev pub FitsLeading : List KeyColumn → List Value → Option Span → Type 0
FitsLeading (column ∷ columns) (v ∷ vs) span = FitsColumn column v × FitsLeading columns vs span
FitsLeading (column ∷ columns) [] (Some span) = FitsSpan column span
FitsLeading columns [] None = Unit {0}
FitsLeading [] [] (Some span) = ⊥
FitsLeading [] (v ∷ vs) span = ⊥

-- these are values of the first columns
abbrev pub FitsFirst : List KeyColumn → List Value → Type 0
FitsFirst columns [] = Unit {0}
FitsFirst [] (v ∷ vs) = ⊥
FitsFirst (column ∷ columns) (v ∷ vs) = FitsColumn column v × FitsFirst columns vs

-- ---- edges beyond the type of a column

-- a number below those of the column's type, and one above them
abbrev pub is_low : KeyColumn → Value → Bool
is_low column (Number n) = int_lt n (least_of column.ty)
is_low column v = false

abbrev pub is_high : KeyColumn → Value → Bool
is_high column (Number n) = int_lt (greatest_of column.ty) n
is_high column v = false

-- an edge that all values of the type meet falls away
abbrev pub lower_within : KeyColumn → Option Edge → Option Edge
lower_within column None = None
lower_within column (Some edge) = if is_low column edge.value then None else Some edge

abbrev pub upper_within : KeyColumn → Option Edge → Option Edge
upper_within column None = None
upper_within column (Some edge) = if is_high column edge.value then None else Some edge

-- an edge that none meets
abbrev pub is_over_all : KeyColumn → Option Edge → Bool
is_over_all column None = false
is_over_all column (Some edge) = is_high column edge.value

abbrev pub is_under_all : KeyColumn → Option Edge → Bool
is_under_all column None = false
is_under_all column (Some edge) = is_low column edge.value

-- no value of the column is in the span
abbrev pub is_beyond : KeyColumn → Span → Bool
is_beyond column span = is_over_all column span.lower || is_under_all column span.upper

-- the span without the edges that all values meet
abbrev pub span_within : KeyColumn → Span → Span
span_within column span = record { lower = lower_within column span.lower; upper = upper_within column span.upper }

-- ---- the code's places

-- the place beside a next value, or beside all keys
abbrev pub cut_of : Beside → Cut
cut_of b = record { values = option_to_list (option_copied b.next); behind = b.behind }

-- a cut among the keys that begin with these values
abbrev pub behind_values : List Value → Cut → Cut
behind_values vs cut = record { values = vs ++ cut.values; behind = cut.behind }
