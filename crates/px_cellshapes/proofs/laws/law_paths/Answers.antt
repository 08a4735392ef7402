use Rattle.px_cellshapes.proofs.Paths.{index_columns_same, table_columns}
use Rattle.px_cellshapes.proofs.laws.law_paths.Goals as goal

pub returns : goal.returns
returns c = record { table = table_columns; index = index_columns_same }
