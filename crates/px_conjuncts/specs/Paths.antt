-- What conjuncts say of a path together, and what is left of them.
use Rattle.std.specs.Prelude.{Bool, true, false, if◌then◌else◌, ◌&&◌, not, List, [], ◌∷◌, map, Option, Some, None}
use Rattle.std.specs.Option.{is_some, option_map}
use Rattle.px_values.specs.declared.row.Value.{Value}
use Rattle.px_values.specs.declared.row.Value.TheVariants.{Null}
use Rattle.px_expr.specs.declared.bound.Bound.{Bound}
use Rattle.px_expr.specs.declared.bound.Test.{Test}
use Rattle.px_ranges.specs.declared.leading.Edge.{Edge}
use Rattle.px_ranges.specs.declared.leading.Span.{Span}
use Rattle.px_ranges.specs.declared.leading.Leading.{Leading}
use Rattle.px_conjuncts.specs.Conjuncts.{told_by, equal_in, lower_in, upper_in}
use Rattle.px_paths.specs.declared.path.PathColumn.{PathColumn}
use Rattle.px_conjuncts.specs.declared.path.EqualTo.{EqualTo}
use Rattle.px_conjuncts.specs.declared.path.EqualTo.TheVariants as e
use Rattle.px_conjuncts.specs.declared.path.Side.{Side}
use Rattle.px_conjuncts.specs.declared.path.Bounds.{Bounds}
use Rattle.px_conjuncts.specs.declared.path.Told.{Told}

-- ---- of several the first in text order counts

abbrev pub or_first : {A : Type 0} → Option A → Option A → Option A
or_first (Some a) other = Some a
or_first None other = other

abbrev pub first_told : {A : Type 0} → (Test → Option A) → List Bound → Option A
first_told f [] = None
first_told f (b ∷ bs) = or_first (told_by f b) (first_told f bs)

-- all but the first that tells it
abbrev pub without_first : {A : Type 0} → (Test → Option A) → List Bound → List Bound
without_first f [] = []
without_first f (b ∷ bs) = if is_some (told_by f b) then bs else b ∷ without_first f bs

-- ---- what they say of a path

-- the bounds of a column, where it has one
abbrev pub span_between : Option Edge → Option Edge → Option Span
span_between None None = None
span_between lower upper = Some (record { lower = lower; upper = upper })

-- a value goes before what is told of the columns behind it; where there is none, the bounds end it
abbrev pub led_by : Option Value → Leading → Option Span → Leading
led_by (Some v) more span = record { equal = v ∷ more.equal; span = more.span }
led_by None more span = record { equal = []; span = span }

-- the leading columns with a value, and the bounds of the next
abbrev pub leading_of : List PathColumn → List Bound → Leading
leading_of [] bs = record { equal = []; span = None }
leading_of (p ∷ path) bs =
    led_by (first_told (equal_in p) bs) (leading_of path (without_first (equal_in p) bs)) (span_between (first_told (lower_in p) bs) (first_told (upper_in p) bs))

-- ---- the conjuncts that this doesn't tell

-- A conjunct is told where each bound that it sets is the first of its kind: `low` and `high` say whether one may be.
abbrev pub is_told : Bool → Bool → Option Edge → Option Edge → Bool
is_told low high None None = false
is_told low high (Some l) None = low
is_told low high None (Some u) = high
is_told low high (Some l) (Some u) = low && high

abbrev pub without_bounds : PathColumn → Bool → Bool → List Bound → List Bound
without_bounds p low high [] = []
without_bounds p low high (b ∷ bs) =
    let l = told_by (lower_in p) b in
    let u = told_by (upper_in p) b in
    let others = without_bounds p (low && not (is_some l)) (high && not (is_some u)) bs in
    if is_told low high l u then others else b ∷ others

abbrev pub conjuncts_left : List PathColumn → List Bound → List Bound
conjuncts_left [] bs = bs
conjuncts_left (p ∷ path) bs =
    if is_some (first_told (equal_in p) bs) then conjuncts_left path (without_first (equal_in p) bs) else without_bounds p true true bs

-- ---- as the code has it

abbrev pub equal_value : EqualTo → Value
equal_value e.Null = Null
equal_value (e.Value v) = v.now

abbrev pub edge_of : Side → Edge
edge_of s = record { value = s.value.now; included = s.included }

abbrev pub span_in : Bounds → Option Span
span_in b = span_between (option_map edge_of b.lower) (option_map edge_of b.upper)

abbrev pub leading_told : Told → Leading
leading_told t = record { equal = map equal_value t.equal.items; span = span_in t.bounds }

-- the conjuncts without a mark
abbrev pub unmarked : List Bound → List Bool → List Bound
unmarked (b ∷ bs) (true ∷ marks) = unmarked bs marks
unmarked (b ∷ bs) (false ∷ marks) = b ∷ unmarked bs marks
unmarked bs marks = []
