-- A table, an index and two rows, worked out by hand.
--
-- The table is T (ID BIGINT NOT NULL primary key, A INTEGER, B INTEGER), and the index is on (A) with B included. The rows are (1, 5, 7) and
-- (2, NULL, NULL).
use Rattle.std.specs.Prelude.{true, false, List, [], ◌∷◌, pos}
use Rattle.px_tables.specs.declared.index.Index.{Index}
use Rattle.px_tables.specs.declared.index.IndexState.TheVariants.{Building}
use Rattle.px_tables.specs.declared.table.Table.{Table}
use Rattle.px_values.specs.declared.column.ColType.TheVariants.{BigInt, Integer}
use Rattle.px_values.specs.declared.order.Direction.TheVariants.{Ascending}
use Rattle.px_values.specs.declared.row.Value.{Value}
use Rattle.px_values.specs.declared.row.Value.TheVariants.{Null, Number}

abbrev pub worked_table : Table
worked_table =
    record {
      id = record { 0 = 4 };
      name = 84 ∷ [];
      columns = record { name = 73 ∷ 68 ∷ []; column_type = BigInt; not_null = true } ∷ record { name = 65 ∷ []; column_type = Integer; not_null = false } ∷ record { name = 66 ∷ []; column_type = Integer; not_null = false } ∷ [];
      key = record { column = 0; direction = Ascending } ∷ [];
      regions = [];
    }

abbrev pub worked_index : Index
worked_index = record { id = record { 0 = 6 }; table = record { 0 = 4 }; name = 73 ∷ []; state = Building; birth = 3; region = 5; parts = record { column = 1; direction = Ascending } ∷ []; included = 2 ∷ [] }

abbrev pub first_row : List Value
first_row = Number (pos 1) ∷ Number (pos 5) ∷ Number (pos 7) ∷ []

abbrev pub second_row : List Value
second_row = Number (pos 2) ∷ Null ∷ Null ∷ []
