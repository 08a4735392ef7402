-- What queries and deletes say, and what is wrong with them.
use Rattle.std.specs.Prelude.{◌≡◌, ℕ, nat_lt, List, [], ◌++◌, map, Option, Some, None}
use Rattle.px_ast.specs.declared.condition.Condition.{Condition}
use Rattle.px_ast.specs.declared.statement.Delete.{Delete}
use Rattle.px_ast.specs.declared.statement.RowLimit.{RowLimit}
use Rattle.px_ast.specs.declared.statement.Select.{Select}
use Rattle.px_expr.specs.declared.bound.Bound.{Bound}
use Rattle.px_tables.specs.declared.table.Table.{Table}
use Rattle.px_tables.specs.declared.table.TableColumn.{TableColumn}
use Rattle.px_resolve.specs.Conditions.{condition_faults, bound_over}
use Rattle.px_bind.specs.Hints.{AreHints}
use Rattle.px_resolve.specs.Literals.{number_of_digits, range_if}
use Rattle.px_resolve.specs.Names.{names_of, part_names, place_of_name, places_from, key_place, known}
use Rattle.px_resolve.specs.declared.conditions.Check.{Check}
use Rattle.px_resolve.specs.declared.conditions.Check.TheVariants.{Names, Operands}
use Rattle.px_resolve.specs.declared.fault.BindFault.{BindFault}
use Rattle.px_bind.specs.declared.request.Hint.{Hint}
use Rattle.px_bind.specs.declared.request.Query.{Query}

-- ---- what is wrong

abbrev pub filter_faults : Check → List TableColumn → Option Condition → List BindFault
filter_faults check columns None = []
filter_faults check columns (Some c) = condition_faults check columns c

abbrev pub shown_faults : List TableColumn → Option (List (List ℕ)) → List BindFault
shown_faults columns None = []
shown_faults columns (Some names) = known (names_of columns) names

abbrev pub limit_faults : Option RowLimit → List BindFault
limit_faults None = []
limit_faults (Some l) = range_if (nat_lt 9223372036854775807 (number_of_digits l.digits)) l.place

-- names, then literals
abbrev pub select_faults : List TableColumn → Select → List BindFault
select_faults columns q =
    (shown_faults columns q.columns ++ (filter_faults Names columns q.filter ++ known (names_of columns) (part_names q.order)))
    ++ (filter_faults Operands columns q.filter ++ limit_faults q.limit)

abbrev pub delete_faults : List TableColumn → Delete → List BindFault
delete_faults columns d = filter_faults Names columns d.filter ++ filter_faults Operands columns d.filter

-- ---- what is asked for

abbrev pub filter_of : List TableColumn → Option Condition → Option Bound
filter_of columns None = None
filter_of columns (Some c) = Some (bound_over columns c)

-- the columns that are shown: all, in order of definition, for `*`
abbrev pub shown_of : List TableColumn → Option (List (List ℕ)) → List ℕ
shown_of columns None = places_from 0 columns
shown_of columns (Some names) = map (place_of_name (names_of columns)) names

abbrev pub limit_of : Option RowLimit → Option ℕ
limit_of None = None
limit_of (Some l) = Some (number_of_digits l.digits)

abbrev pub bound_query : Table → List Hint → Select → Query
bound_query t hints q = record {
  table = t.id;
  hints = hints;
  shown = shown_of t.columns q.columns;
  filter = filter_of t.columns q.filter;
  order = map (key_place (names_of t.columns)) q.order;
  limit = limit_of q.limit;
}

abbrev pub IsQuery : Table → Select → Query → Type 0
IsQuery t q query = (hints : List Hint) × AreHints t.name q.hint hints × (query ≡ bound_query t hints q)
