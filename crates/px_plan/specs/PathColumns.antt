-- The key columns of a path.
use Rattle.std.specs.Prelude.{List, Option, Some, None}
use Rattle.px_tables.specs.declared.index.Index.{Index}
use Rattle.px_tables.specs.declared.table.Table.{Table}
use Rattle.px_paths.specs.Paths.{index_path, table_path}
use Rattle.px_paths.specs.declared.path.PathColumn.{PathColumn}

-- the data table's path, or that of an index
abbrev pub path_of : Table → Option Index → List PathColumn
path_of t None = table_path t
path_of t (Some i) = index_path t i
