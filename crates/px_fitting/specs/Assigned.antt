-- Assignments that fit.
use Rattle.std.specs.Prelude.{◌≡◌, ◌⊎◌, ◌<◌, false, List, length}
use Rattle.std.specs.List.{slice_get}
use Rattle.px_values.specs.Types.{HasType}
use Rattle.px_values.specs.declared.change.Assignment.{Assignment}
use Rattle.px_values.specs.declared.row.Value.TheVariants.{Null}
use Rattle.px_tables.specs.declared.table.KeyPlace.{KeyPlace}
use Rattle.px_tables.specs.declared.table.TableColumn.{TableColumn}
use Rattle.px_paths.specs.Paths.{is_keyed, type_in}

-- its column stands, outside the key, and its value is NULL or of the column's type
abbrev pub IsAssignedTo : List TableColumn → List KeyPlace → Assignment → Type 0
IsAssignedTo columns key a = (a.column < length columns) × (is_keyed key a.column ≡ false) × ((a.value ≡ Null) ⊎ HasType (type_in (slice_get columns a.column)) a.value)
