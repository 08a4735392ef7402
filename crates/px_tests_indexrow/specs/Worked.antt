-- A table, an index and a change of a row, worked out by hand.
--
-- The table is T (ID BIGINT NOT NULL primary key, C VARCHAR, A INTEGER, N VARCHAR), and the index is on (A DESC) with C and N
-- included. The row is ID 1, first ('bo', 5, NULL) and then ('al', NULL, 'x').
use Rattle.std.specs.Prelude.{◌≡◌, true, false, Some, List, [], ◌∷◌, pos}
use Rattle.px_tables.specs.declared.index.Index.{Index}
use Rattle.px_tables.specs.declared.index.IndexState.TheVariants.{Active}
use Rattle.px_tables.specs.declared.table.Table.{Table}
use Rattle.px_values.specs.States.{RowState}
use Rattle.px_values.specs.declared.change.Change.{Change}
use Rattle.px_values.specs.declared.change.What.TheVariants.{Set}
use Rattle.px_values.specs.declared.column.ColType.TheVariants.{BigInt, Integer, Varchar}
use Rattle.px_values.specs.declared.order.Direction.TheVariants.{Ascending, Descending}
use Rattle.px_values.specs.declared.row.Value.TheVariants.{Null, Number, Text}
use Rattle.px_tests_indexrow.specs.declared.worked.Case.{Case}

abbrev pub worked_table : Table
worked_table =
    record {
      id = record { 0 = 4 };
      name = 84 ∷ [];
      columns = record { name = 73 ∷ 68 ∷ []; column_type = BigInt; not_null = true }
          ∷ record { name = 67 ∷ []; column_type = Varchar; not_null = false }
          ∷ record { name = 65 ∷ []; column_type = Integer; not_null = false }
          ∷ record { name = 78 ∷ []; column_type = Varchar; not_null = false }
          ∷ [];
      key = record { column = 0; direction = Ascending } ∷ [];
      regions = [];
    }

abbrev pub worked_index : Index
worked_index = record { id = record { 0 = 6 }; table = record { 0 = 4 }; name = 73 ∷ []; state = Active; birth = 0; region = 5; parts = record { column = 2; direction = Descending } ∷ []; included = 1 ∷ 3 ∷ [] }

-- what stood, and what stands after the change
abbrev pub worked_old : RowState
worked_old = Some (Number (pos 1) ∷ Text (98 ∷ 111 ∷ []) ∷ Number (pos 5) ∷ Null ∷ [])

abbrev pub worked_new : RowState
worked_new = Some (Number (pos 1) ∷ Text (97 ∷ 108 ∷ []) ∷ Null ∷ Text (120 ∷ []) ∷ [])

abbrev pub worked_change : Change
worked_change = record {
  row = Number (pos 1) ∷ [];
  what = Set (record { column = 1; value = Text (97 ∷ 108 ∷ []) } ∷ record { column = 2; value = Null } ∷ record { column = 3; value = Text (120 ∷ []) } ∷ []);
}

abbrev pub worked : Case
worked = record { table = worked_table; index = worked_index; change = worked_change; old = worked_old; new = worked_new }
