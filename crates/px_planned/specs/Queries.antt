-- What a planned query asks.
use Rattle.std.specs.Prelude.{◌≡◌, ℕ, Bool, true, false, not, ◌&&◌, ◌||◌, if◌then◌else◌, nat_eq, nat_lt, List, [], ◌∷◌, map, get_or, Option, Some, None}
use Rattle.std.specs.Bool.{beq}
use Rattle.std.specs.List.{filter, list_all}
use Rattle.std.specs.Option.{option_map}
use Rattle.px_values.specs.declared.row.Value.{Value}
use Rattle.px_values.specs.declared.row.Value.TheVariants.{Null}
use Rattle.px_tables.specs.declared.found.Found.{Found}
use Rattle.px_tables.specs.declared.index.Index.{Index}
use Rattle.px_tables.specs.declared.table.KeyPlace.{KeyPlace}
use Rattle.px_tables.specs.declared.table.Table.{Table}
use Rattle.px_expr.specs.Holds.{truth_of}
use Rattle.px_expr.specs.declared.bound.Bound.{Bound}
use Rattle.px_expr.specs.declared.bound.Truth.{Truth}
use Rattle.px_expr.specs.declared.bound.Truth.TheVariants as truths
use Rattle.px_calls.specs.declared.query.By.{By}
use Rattle.px_calls.specs.declared.query.By.TheVariants as bys
use Rattle.px_calls.specs.declared.query.Path.{Path}
use Rattle.px_conjuncts.specs.Paths.{leading_of}
use Rattle.px_gather.specs.Query.{Query}
use Rattle.px_plan.specs.Asked.{AreKeys, TakesFor, columns_asked}
use Rattle.px_plan.specs.Choice.{candidates, hinted, rank_of}
use Rattle.px_plan.specs.Naming.{holds_all}
use Rattle.px_plan.specs.PathColumns.{path_of}
use Rattle.px_plan.specs.declared.plan.Asked.{Asked}
use Rattle.px_plan.specs.declared.rank.Rank.{Rank}
use Rattle.px_planned.specs.declared.planned.Planned.{Planned}

abbrev pub is_true : Truth → Bool
is_true truths.True = true
is_true t = false

-- each conjunct is true of the row
abbrev pub meets_all : List Bound → List Value → Bool
meets_all bs row = list_all (λ b. is_true (truth_of row b)) bs

abbrev pub values_at : List ℕ → List Value → List Value
values_at places row = map (λ place. get_or row place Null) places

-- LIMIT ends a scan where no ORDER BY stands
abbrev pub limit_if : List KeyPlace → Option ℕ → Option ℕ
limit_if [] limit = limit
limit_if (p ∷ order) limit = None

-- the hinted index lacks a column
abbrev pub lacks : Option (Option Index) → Table → List ℕ → Bool
lacks (Some (Some i)) t columns = not (holds_all t i columns)
lacks hint t columns = false

abbrev pub joins_at : Asked → Found → ℕ → Bool
joins_at a found stamp = lacks (hinted found.indexes (Some stamp) a.hints) found.table (columns_asked a)

abbrev pub by_index : Option Index → By
by_index None = bys.Table
by_index (Some i) = bys.Index i.id

-- The path that px_plan chooses, by the definitions found at a stamp
abbrev pub IsPathTaken : Asked → Found → ℕ → By → Type 0
IsPathTaken a found stamp by = (i : Option Index) × TakesFor found (Some stamp) a (columns_asked a) i × (by ≡ by_index i)

-- The same as a value, for px_scan. A rank is better by more EQUAL, else RANGE, else the order of the ORDER BY
unfoldable pub outranks : Rank → Rank → Bool
outranks a b = nat_lt b.equal a.equal || (nat_eq a.equal b.equal && ((a.bounded && not b.bounded) || (beq a.bounded b.bounded && (a.ordered && not b.ordered))))

-- of these the first than which none is better
abbrev pub first_best : (Option Index → Rank) → List (Option Index) → Option Index
first_best rank choices = get_or (filter (λ i. list_all (λ c. not (outranks (rank c) (rank i))) choices) choices) 0 None

abbrev pub hinted_or : Option (Option Index) → Option Index → Option Index
hinted_or None best = best
hinted_or (Some i) best = i

-- where hints lead, or the best candidate; none where the hinted index lacks a column
unfoldable pub path_taken : Asked → Found → ℕ → Option (Option Index)
path_taken a found stamp = if joins_at a found stamp then None else Some (hinted_or (hinted found.indexes (Some stamp) a.hints) (first_best (rank_of found.table a.conjuncts a.order) (candidates found.table (Some stamp) (columns_asked a) found.indexes)))

abbrev pub takes_at : Asked → Found → ℕ → Option By
takes_at a found stamp = option_map by_index (path_taken a found stamp)

abbrev pub query_of : Planned → Query
query_of p = record { table = p.table.id.0; bound = p.table; meets = meets_all p.asked.conjuncts; named = values_at (columns_asked p.asked); limit = limit_if p.asked.order p.asked.limit; joins = joins_at p.asked; takes = takes_at p.asked }

-- the path reads the keys of the rows that begin as the conjuncts say
pub record IsPathBy (t : Table) (a : Asked) (by : Option Index) (path : Path) : Type 0 where
  pub by_is : path.by ≡ by_index by
  pub keys : AreKeys (path_of t by) (leading_of (path_of t by) a.conjuncts) (record { low = path.low; high = path.high })
