use Rattle.std.proofs.Common.{◌∙◌, ap}
use Rattle.px_paths.specs.Paths.{columns_on}
use Rattle.px_cellshapes.proofs.Paths.{table_columns}
use Rattle.px_cellshapes.proofs.Tests.{rows_shown}
use Rattle.px_cellshapes.proofs.row_cells.are_right_rows.Goals as goal

pub all_right-requires : goal.all_right-requires
all_right-requires c = record { columns = c.deref.ensures.value ∙ (c.in_ok-columns.ensures ∙ (ap columns_on (c.as_slice.ensures ∙ c.in_ok-path.ensures) ∙ table_columns c.args.table.now)) }

pub returns : goal.returns
returns c = rows_shown c.args.table.now c.args.cells.now c.all_right.result c.requires.ascending c.all_right.ensures
