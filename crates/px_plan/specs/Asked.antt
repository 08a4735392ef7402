-- A query whose condition is taken apart, and its plan.
use Rattle.std.specs.Prelude.{◌≡◌, ◌↔◌, ◌++◌, ℕ, not, List, length, map, Option, Result, Ok, Err}
use Rattle.std.specs.List.{flat_map}
use Rattle.std.specs.Option.{option_map}
use Rattle.px_values.specs.declared.row.Value.{Value}
use Rattle.px_keys.specs.Range.{IsBetween}
use Rattle.px_expr.specs.declared.bound.Bound.{Bound}
use Rattle.px_tables.specs.declared.found.Found.{Found}
use Rattle.px_tables.specs.declared.index.Index.{Index}
use Rattle.px_tables.specs.declared.table.KeyPlace.{KeyPlace}
use Rattle.px_tables.specs.declared.table.Table.{Table}
use Rattle.px_bind.specs.declared.request.Query.{Query}
use Rattle.px_ranges.specs.Led.{IsLed}
use Rattle.px_ranges.specs.declared.leading.KeyBounds.{KeyBounds}
use Rattle.px_conjuncts.specs.Conjuncts.{conjuncts_of_filter}
use Rattle.px_conjuncts.specs.Paths.{conjuncts_left, leading_of, unmarked}
use Rattle.px_paths.specs.declared.path.PathColumn.{PathColumn}
use Rattle.px_ranges.specs.declared.leading.Leading.{Leading}
use Rattle.px_plan.specs.PathColumns.{path_of}
use Rattle.px_plan.specs.Naming.{columns_in}
use Rattle.px_plan.specs.Choice.{IsBest, Lacks, TakesPath, candidates, hinted, leading_by, rank_of, rank_on}
use Rattle.px_plan.specs.Plans.{HasKey, key_name, row_key_on}
use Rattle.px_plan.specs.declared.plan.Asked.{Asked}
use Rattle.px_plan.specs.declared.reading.PathReading.{PathReading}
use Rattle.px_plan.specs.declared.plan.Plan.{Plan}
use Rattle.px_plan.specs.declared.plan.PlanFault.{PlanFault}
use Rattle.px_plan.specs.declared.plan.PlanFault.TheVariants.{IndexJoin, Memory}
use Rattle.px_paths.specs.Paths.{values_on}

abbrev pub asked_of : Query → Asked
asked_of q = record { hints = q.hints; shown = q.shown; conjuncts = conjuncts_of_filter q.filter; order = q.order; limit = q.limit }

-- the columns that it names
abbrev pub columns_asked : Asked → List ℕ
columns_asked a = a.shown ++ (flat_map columns_in a.conjuncts ++ map (λ p. p.column) a.order)

-- the keys are just those of the rows that begin so
abbrev pub AreKeys : List PathColumn → Leading → KeyBounds → Type 0
AreKeys path l bounds = (row : List Value) → HasKey path row → (IsBetween bounds.low bounds.high (row_key_on path row) ↔ IsLed l (values_on path row))

-- what is read by a path
pub record IsReading (path : List PathColumn) (conjuncts : List Bound) (order : List KeyPlace) (r : PathReading) : Type 0 where
  pub rank : r.rank ≡ rank_on path conjuncts order
  pub keys : AreKeys path (leading_of path conjuncts) r.bounds
  pub rest : unmarked conjuncts r.marks.items ≡ conjuncts_left path conjuncts
  pub count : length r.marks.items ≡ length conjuncts

pub record IsPlanOf (t : Table) (a : Asked) (by : Option Index) (p : Plan) : Type 0 where
  pub path : p.by ≡ key_name by
  pub table_name : p.table ≡ t.name
  pub index_name : p.index ≡ option_map (λ i. i.name) by
  pub equal : p.equal ≡ (rank_of t a.conjuncts a.order by).equal
  pub bounded : p.bounded ≡ (rank_of t a.conjuncts a.order by).bounded
  pub sort : p.sort ≡ not (rank_of t a.conjuncts a.order by).ordered
  pub rest : p.rest ≡ conjuncts_left (path_of t by) a.conjuncts
  pub keys : AreKeys (path_of t by) (leading_by t a.conjuncts by) p.bounds
  pub shown : p.shown ≡ a.shown
  pub order : p.order ≡ a.order
  pub limit : p.limit ≡ a.limit

abbrev pub TakesFor : Found → Option ℕ → Asked → List ℕ → Option Index → Type 0
TakesFor found point a columns by =
    TakesPath (hinted found.indexes point a.hints) found.table columns (IsBest (rank_of found.table a.conjuncts a.order) (candidates found.table point columns found.indexes)) by

-- why a query has no path
abbrev pub FaultFor : Found → Option ℕ → Asked → List ℕ → PlanFault → Type 0
FaultFor found point a columns IndexJoin = Lacks (hinted found.indexes point a.hints) found.table columns
FaultFor found point a columns Memory = Unit {0}

abbrev pub AnswersBy : Found → Option ℕ → Asked → List ℕ → Result Plan PlanFault → Type 0
AnswersBy found point a columns (Ok p) = (by : Option Index) × TakesFor found point a columns by × IsPlanOf found.table a by p
AnswersBy found point a columns (Err fault) = FaultFor found point a columns fault
