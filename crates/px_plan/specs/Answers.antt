-- The answer of a query over the rows of a table.
use Rattle.std.specs.Prelude.{◌≡◌, ◌↔◌, ℕ, List, [], ◌∷◌, map, get_or, take, Option, Some, None}
use Rattle.std.specs.List.{Contains}
use Rattle.std.specs.Ordering.{ordering_then}
use Rattle.std.specs.declared.cmp.Ordering.{Ordering}
use Rattle.std.specs.declared.cmp.Ordering.TheVariants.{Less, Equal}
use Rattle.px_values.specs.Compare.{compare_of}
use Rattle.px_values.specs.declared.row.Value.{Value}
use Rattle.px_values.specs.declared.row.Value.TheVariants.{Null}
use Rattle.px_keys.specs.KeyOrder.{parts_order}
use Rattle.px_tables.specs.declared.table.KeyPlace.{KeyPlace}
use Rattle.px_tables.specs.declared.table.Table.{Table}
use Rattle.px_bind.specs.declared.request.Query.{Query}
use Rattle.px_paths.specs.declared.path.PathColumn.{PathColumn}
use Rattle.px_plan.specs.Plans.{IsSelected}
use Rattle.px_paths.specs.Paths.{columns_on, table_path, values_on}

-- the order of an ORDER BY
abbrev pub by_order : List KeyPlace → List Value → List Value → Ordering
by_order [] a b = Equal
by_order (p ∷ order) a b = ordering_then (compare_of p.direction (get_or a p.column Null) (get_or b p.column Null)) (by_order order a b)

-- the order of a path: that of its keys
abbrev pub by_path : List PathColumn → List Value → List Value → Ordering
by_path path a b = parts_order (columns_on path) (values_on path a) (values_on path b)

-- rows go by the ORDER BY, and where this leaves it open by the path
abbrev pub comes_before : Query → List PathColumn → List Value → List Value → Ordering
comes_before q path a b = ordering_then (by_order q.order a b) (by_path path a b)

-- each row before the next, and so no row twice
abbrev pub Ascends : (List Value → List Value → Ordering) → List (List Value) → Type 0
Ascends order [] = Unit {0}
Ascends order (a ∷ []) = Unit {0}
Ascends order (a ∷ b ∷ rows) = (order a b ≡ Less) × Ascends order (b ∷ rows)

abbrev pub row_answered : Query → List Value → List Value
row_answered q row = map (λ place. get_or row place Null) q.shown

abbrev pub cut_off : {A : Type 0} → Option ℕ → List A → List A
cut_off None rows = rows
cut_off (Some n) rows = take n rows

-- The answer by a path: the selected rows in this order, cut at LIMIT, of each what is shown.
pub record IsAnswer (rows : List (List Value)) (q : Query) (path : List PathColumn) (answer : List (List Value)) : Type 0 where
  pub sorted : List (List Value)
  pub ascends : Ascends (comes_before q path) sorted
  pub selected : (row : List Value) → Contains sorted row ↔ (Contains rows row × IsSelected q.filter row)
  pub given : answer ≡ map (row_answered q) (cut_off q.limit sorted)

-- no primary key stands twice among the rows
abbrev pub AreKeyed : Table → List (List Value) → Type 0
AreKeyed t rows = (a b : List Value) → Contains rows a → Contains rows b → values_on (table_path t) a ≡ values_on (table_path t) b → a ≡ b
