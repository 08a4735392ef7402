-- What a SELECT asks, and what its answer is.
use Rattle.std.specs.Prelude.{ℕ, ◌≡◌, ◌≤◌, Bool, Option, None, Some, List, map, take}
use Rattle.std.specs.Cmp.Lexicographic.{slice_cmp}
use Rattle.std.specs.Ordering.{is_lt, nat_cmp, ordering_then}
use Rattle.px_values.specs.declared.row.Value.{Value}
use Rattle.px_tables.specs.declared.found.Found.{Found}
use Rattle.px_tables.specs.declared.table.KeyPlace.{KeyPlace}
use Rattle.px_bind.specs.declared.request.Query.{Query}
use Rattle.px_trail.specs.declared.entry.Entry.{Entry}
use Rattle.px_trail.specs.Answers.{Asked, Given, IsCurrent, IsExact}
use Rattle.px_trail.specs.Batches.{IsDecided}
use Rattle.px_trail.specs.States.{AreRowsAt}
use Rattle.px_trail.specs.Trail.{Base, horizon_of}
use Rattle.px_calls.specs.declared.query.By.{By}
use Rattle.px_calls.specs.Causes.{stamp_at}
use Rattle.px_calls.specs.Looks.{columns_by}
use Rattle.px_gather.specs.Query.{asked}
use Rattle.px_plan.specs.Answers.{IsAnswer, by_order}
use Rattle.px_plan.specs.Asked.{asked_of}
use Rattle.px_planned.specs.Queries.{query_of}
use Rattle.px_planned.specs.declared.planned.Planned.{Planned}
use Rattle.px_sorted.specs.Sorting.{row_shown}
use Rattle.px_sorted.specs.declared.answer.Shown.{Shown}

-- a row comes before another: by the ORDER BY, and where this leaves it open by the bytes of their keys
abbrev pub goes_before : List KeyPlace → (List Value → List ℕ) → List Value → List Value → Bool
goes_before order key a b = is_lt (ordering_then (by_order order a b) (slice_cmp nat_cmp (key a) (key b)))

-- the same rows in the order of an ORDER BY, up to a LIMIT
abbrev pub in_order_of : List KeyPlace → Option ℕ → Asked → Asked
in_order_of order limit q = record { table = q.table; meets = q.meets; named = q.named; path_key = q.path_key; before = goes_before order q.path_key; limit = limit }

-- what a SELECT asks, by the definitions that are found at its point and in the keys by which its rows are read
abbrev pub selects : Planned → Found → By → Asked
selects p found by = in_order_of p.asked.order p.asked.limit (asked (query_of p) found by)

-- these columns of these rows are shown, with the places of the rows
pub record AreShown (columns : List ℕ) (given : List Given) (s : Shown) : Type 0 where
  pub rows : s.rows ≡ map (λ g. row_shown columns g.row) given
  pub places : s.places ≡ map (λ g. g.at) given

-- what is shown is of rows that are a current answer: each was held at its place and meets the condition, they are in order, and each row that
-- stood throughout and meets it is given, unless LIMIT rows are given and it comes before none of them
pub record IsCurrentSelect (b : Base) (es : List Entry) (p : Planned) (found : Found) (by : By) (first last : ℕ) (s : Shown) : Type 0 where
  pub given : List Given
  pub shown : AreShown p.asked.shown given s
  pub current : IsCurrent b es (selects p found by) first last given

-- or of exactly the rows at the point, where each batch is written, and so it is the answer that px_plan defines over all of them
pub record IsExactSelect (b : Base) (es : List Entry) (p : Planned) (found : Found) (by : By) (point : ℕ) (s : Shown) : Type 0 where
  pub given : List Given
  pub shown : AreShown p.asked.shown given s
  pub decided : IsDecided es p.table.id.0 point
  pub exact : IsExact b es (selects p found by) point given
  pub answer : (q : Query) → p.asked ≡ asked_of q → (rows : List (List Value)) → AreRowsAt b es p.table.id.0 point rows → IsAnswer rows q (columns_by found by) s.rows

-- The answer of a SELECT. Under an SCN the point is the lesser of the SCN minus one and the last stamp after `first`, and not below the horizon then
abbrev pub IsSelectBy : Base → List Entry → Planned → Option ℕ → Found → By → (first last : ℕ) → Shown → Type 0
IsSelectBy b es p None found by first last s = IsCurrentSelect b es p found by first last s
IsSelectBy b es p (Some scn) found by first last s =
    IsExactSelect b es p found by (stamp_at (Some scn) p.table.id.0 b (take first es)) s × (horizon_of b p.table.id.0 (take first es) ≤ stamp_at (Some scn) p.table.id.0 b (take first es))
