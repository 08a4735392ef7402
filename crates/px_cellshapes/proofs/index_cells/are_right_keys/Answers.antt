use Rattle.std.proofs.Common.{◌∙◌, ap}
use Rattle.px_paths.specs.Paths.{columns_on}
use Rattle.px_cellshapes.proofs.Paths.{index_columns_same}
use Rattle.px_cellshapes.proofs.Tests.{keys_shown}
use Rattle.px_cellshapes.proofs.index_cells.are_right_keys.Goals as goal

pub all_right-requires-clause-columns : goal.all_right-requires-clause-columns
all_right-requires-clause-columns c = c.deref.ensures.value ∙ (c.in_ok-columns.ensures ∙ (ap columns_on (c.as_slice.ensures ∙ c.in_ok-path.ensures) ∙ index_columns_same c.args.table.now c.args.index.now))

pub returns : goal.returns
returns c = keys_shown c.args.table.now c.args.index.now c.args.cells.now c.all_right.result c.requires.ascending c.all_right.ensures
