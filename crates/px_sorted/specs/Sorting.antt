-- What a query answers of the rows that its scan found.
use Rattle.std.specs.Prelude.{ℕ, Bool, if◌then◌else◌, List, [], ◌∷◌, map, get_or}
use Rattle.std.specs.Ordering.{is_lt}
use Rattle.px_values.specs.declared.row.Value.{Value}
use Rattle.px_values.specs.declared.row.Value.TheVariants.{Null}
use Rattle.px_tables.specs.declared.table.KeyPlace.{KeyPlace}
use Rattle.px_plan.specs.Answers.{by_order, cut_off}
use Rattle.px_plan.specs.declared.plan.Asked.{Asked}
use Rattle.px_scan.specs.declared.answer.Placed.{Placed}
use Rattle.px_sorted.specs.declared.answer.Shown.{Shown}

-- one more, before the first that isn't less
abbrev pub put_in : {A : Type 0} → (A → A → Bool) → A → List A → List A
put_in less x [] = x ∷ []
put_in less x (y ∷ ys) = if less y x then y ∷ put_in less x ys else x ∷ y ∷ ys

-- in order; those of which none is less stay in theirs
abbrev pub stably_sorted : {A : Type 0} → (A → A → Bool) → List A → List A
stably_sorted less [] = []
stably_sorted less (x ∷ xs) = put_in less x (stably_sorted less xs)

-- a row comes before another by the ORDER BY
abbrev pub is_ordered_before : List KeyPlace → Placed → Placed → Bool
is_ordered_before order a b = is_lt (by_order order a.row b.row)

abbrev pub sorted_by : List KeyPlace → List Placed → List Placed
sorted_by order rows = stably_sorted (is_ordered_before order) rows

-- the columns of a row that are shown
abbrev pub row_shown : List ℕ → List Value → List Value
row_shown columns row = map (λ column. get_or row column Null) columns

-- the rows that are given
abbrev pub given_rows : Asked → List Placed → List Placed
given_rows a found = cut_off a.limit (sorted_by a.order found)

abbrev pub answer_of : Asked → List Placed → Shown
answer_of a found = record { rows = map (λ p. row_shown a.shown p.row) (given_rows a found); places = map (λ p. p.at) (given_rows a found) }
