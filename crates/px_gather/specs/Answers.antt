-- What the answer of a query is.
use Rattle.std.specs.Prelude.{ℕ, ◌≡◌, ◌≤◌, true, Option, None, Some, List, map, length, take}
use Rattle.std.specs.Option.{is_some}
use Rattle.px_values.specs.declared.row.Value.{Value}
use Rattle.px_tables.specs.declared.found.Found.{Found}
use Rattle.px_trail.specs.declared.entry.Entry.{Entry}
use Rattle.px_trail.specs.Answers.{Given, IsCurrent, IsExact}
use Rattle.px_trail.specs.Batches.{IsDecided}
use Rattle.px_trail.specs.States.{key_in, state_of}
use Rattle.px_trail.specs.Trail.{Base, horizon_of, last_of, shape_of, table_shape}
use Rattle.px_calls.specs.declared.query.By.{By}
use Rattle.px_calls.specs.declared.query.Point.{Point}
use Rattle.px_calls.specs.Calls.{IsFound}
use Rattle.px_calls.specs.Causes.{stamp_at}
use Rattle.px_calls.specs.Requires.{FitsRow}
use Rattle.px_gather.specs.Gathered.{named_of}
use Rattle.px_gather.specs.Query.{Query, asked}

-- The query's point, opened as the last of the first `at` entries. It speaks of them alone
pub record IsPointOfQuery (b : Base) (es : List Entry) (q : Query) (scn : Option ℕ) (p : Point) : Type 0 where
  pub table : p.table.0 ≡ q.table
  pub is_scn : p.scn ≡ is_some scn
  pub within : p.found.at ≤ length es
  pub stamp : p.stamp ≡ stamp_at scn q.table b (take p.found.at es)
  pub low : horizon_of b q.table (take p.found.at es) ≤ p.stamp
  pub high : p.stamp ≤ last_of b q.table (take p.found.at es)
  pub decided : p.scn ≡ true → IsDecided (take p.found.at es) q.table p.stamp
  pub found : IsFound b (take p.found.at es) p.found
  pub found_table : p.found.table.id ≡ p.table

-- rows with the named values and the places of whole rows that are a current answer
pub record IsCurrentOf (b : Base) (es : List Entry) (q : Query) (found : Found) (by : By) (first last : ℕ) (rows : List Given) : Type 0 where
  pub given : List Given
  pub same : map (named_of q) rows ≡ map (named_of q) given
  pub current : IsCurrent b es (asked q found by) first last given

-- or are exactly those at the point, where each batch is written. The table's shape is that of its definition, and each row there is one that
-- it may have
pub record IsExactOf (b : Base) (es : List Entry) (q : Query) (found : Found) (by : By) (p : ℕ) (rows : List Given) : Type 0 where
  pub given : List Given
  pub same : map (named_of q) rows ≡ map (named_of q) given
  pub decided : IsDecided es q.table p
  pub exact : IsExact b es (asked q found by) p given
  pub shape : shape_of b es q.table ≡ table_shape found.table
  pub fits : (row : List Value) → state_of b es q.table (key_in (shape_of b es q.table) row) p ≡ Some row → FitsRow found.table row

-- The answer by the definitions `found` at the point, in the order of the keys `by`. Under an SCN the point is the lesser of the SCN minus
-- one and the last stamp after `first`, and not below the horizon then
abbrev pub IsAnswerBy : Base → List Entry → Query → Option ℕ → Found → By → (first last : ℕ) → List Given → Type 0
IsAnswerBy b es q None found by first last rows = IsCurrentOf b es q found by first last rows
IsAnswerBy b es q (Some scn) found by first last rows =
    IsExactOf b es q found by (stamp_at (Some scn) q.table b (take first es)) rows × (horizon_of b q.table (take first es) ≤ stamp_at (Some scn) q.table b (take first es))
