-- What a plan of a query is.
use Rattle.std.specs.Prelude.{◌≡◌, ◌↔◌, ℕ, not, List, Option, Some, None, Result, Ok, Err}
use Rattle.std.specs.Option.{option_map}
use Rattle.px_values.specs.declared.row.Value.{Value}
use Rattle.px_keys.specs.Range.{IsBetween}
use Rattle.px_keys.specs.Spelling.{Fits, spelled}
use Rattle.px_expr.specs.Holds.{Selects}
use Rattle.px_expr.specs.declared.bound.Bound.{Bound}
use Rattle.px_tables.specs.declared.found.Found.{Found}
use Rattle.px_tables.specs.declared.index.Index.{Index}
use Rattle.px_tables.specs.declared.table.Table.{Table}
use Rattle.px_bind.specs.declared.request.Query.{Query}
use Rattle.px_ranges.specs.Led.{IsLed}
use Rattle.px_conjuncts.specs.Conjuncts.{all_true, conjuncts_of_filter}
use Rattle.px_conjuncts.specs.Paths.{conjuncts_left}
use Rattle.px_paths.specs.declared.path.PathColumn.{PathColumn}
use Rattle.px_plan.specs.PathColumns.{path_of}
use Rattle.px_plan.specs.Naming.{columns_named}
use Rattle.px_plan.specs.Choice.{IsBest, Lacks, TakesPath, candidates, hinted, leading_by, rank_of}
use Rattle.px_plan.specs.declared.plan.By.{By}
use Rattle.px_plan.specs.declared.plan.By.TheVariants as bys
use Rattle.px_plan.specs.declared.plan.Plan.{Plan}
use Rattle.px_plan.specs.declared.plan.PlanFault.{PlanFault}
use Rattle.px_plan.specs.declared.plan.PlanFault.TheVariants.{IndexJoin, Memory}
use Rattle.px_paths.specs.Paths.{columns_on, values_on}

abbrev pub conjuncts : Query → List Bound
conjuncts q = conjuncts_of_filter q.filter

-- every row is selected where no condition stands
abbrev pub IsSelected : Option Bound → List Value → Type 0
IsSelected None row = Unit {0}
IsSelected (Some b) row = Selects b row

-- the path is chosen by the hints, or as the best candidate
abbrev pub IsChosen : Found → Option ℕ → Query → Option Index → Type 0
IsChosen found point q by =
    TakesPath (hinted found.indexes point q.hints) found.table (columns_named q)
    (IsBest (rank_of found.table (conjuncts q) q.order) (candidates found.table point (columns_named q) found.indexes)) by

-- the key of a row on a path, and a row whose key has values of its columns
abbrev pub row_key_on : List PathColumn → List Value → List ℕ
row_key_on path row = spelled (columns_on path) (values_on path row)

abbrev pub HasKey : List PathColumn → List Value → Type 0
HasKey path row = Fits (columns_on path) (values_on path row)

abbrev pub key_name : Option Index → By
key_name None = bys.Table
key_name (Some i) = bys.Index i.id

pub record IsPlan (t : Table) (q : Query) (by : Option Index) (p : Plan) : Type 0 where
  -- its path, and the names of table and index
  pub path : p.by ≡ key_name by
  pub table_name : p.table ≡ t.name
  pub index_name : p.index ≡ option_map (λ i. i.name) by
  -- how many leading columns are equal to a value, whether the next is bounded, and whether rows are sorted
  pub equal : p.equal ≡ (rank_of t (conjuncts q) q.order by).equal
  pub bounded : p.bounded ≡ (rank_of t (conjuncts q) q.order by).bounded
  pub sort : p.sort ≡ not (rank_of t (conjuncts q) q.order by).ordered
  -- the conjuncts that the keys don't tell
  pub rest : p.rest ≡ conjuncts_left (path_of t by) (conjuncts q)
  -- the keys that are read are just those of the rows that begin as the conjuncts say
  pub keys : (row : List Value) → HasKey (path_of t by) row → (IsBetween p.bounds.low p.bounds.high (row_key_on (path_of t by) row) ↔ IsLed (leading_by t (conjuncts q) by) (values_on (path_of t by) row))
  -- so the rows of the query are those whose key is read and of which the rest is true
  pub rows : (row : List Value) → HasKey (path_of t by) row → (IsSelected q.filter row ↔ (IsBetween p.bounds.low p.bounds.high (row_key_on (path_of t by) row) × all_true row p.rest))
  -- what is shown, in what order, and how many rows
  pub shown : p.shown ≡ q.shown
  pub order : p.order ≡ q.order
  pub limit : p.limit ≡ q.limit

-- the plan by the path that is chosen; or the hinted index lacks a column; memory may be wanting at any time
abbrev pub AnswersPlan : Found → Option ℕ → Query → Result Plan PlanFault → Type 0
AnswersPlan found point q (Ok p) = (by : Option Index) × IsChosen found point q by × IsPlan found.table q by p
AnswersPlan found point q (Err IndexJoin) = Lacks (hinted found.indexes point q.hints) found.table (columns_named q)
AnswersPlan found point q (Err Memory) = Unit {0}
