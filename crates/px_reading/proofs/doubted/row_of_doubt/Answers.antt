use Rattle.std.proofs.Common.{refl, ◌∙◌}
use Rattle.px_reading.proofs.Dues.{fits_there, owner_there}
use Rattle.px_reading.proofs.Looked.{no_look, no_looks}
use Rattle.px_reading.proofs.doubted.row_of_doubt.Goals as goal

pub returns-in_default-clause-looked : goal.returns-in_default-clause-looked
returns-in_default-clause-looked g c = record {
  table = refl;
  rows = no_look c.args.group.now.rows;
  indexes = no_looks c.args.group.now.indexes.items;
  batches = refl;
  points = refl;
  last = refl;
  horizon = refl;
}

pub cells_of_row-requires-clause-fits : goal.cells_of_row-requires-clause-fits
cells_of_row-requires-clause-fits g c = fits_there c.args.group.now c.requires.right c.args.place c.requires.there c.args.key.now c.requires.key c.deref.result.now (owner_there c.args.group.now c.args.place _ c.index.result.now c.index.ensures c.args.key.now c.deref.result.now (c.deref.ensures.value ∙ c.in-Ok.ensures))

pub returns-in_err-cells-clause-looked : goal.returns-in_err-cells-clause-looked
returns-in_err-cells-clause-looked g c = record {
  table = refl;
  rows = c.cells_of_row.ensures.looked;
  indexes = no_looks c.args.group.now.indexes.items;
  batches = refl;
  points = refl;
  last = refl;
  horizon = refl;
}

pub returns-clause-row : goal.returns-clause-row
returns-clause-row g c = λ x at. owner_there c.args.group.now c.args.place _ c.index.result.now c.index.ensures c.args.key.now c.in-Ok.row.items c.in-Ok.ensures x at

pub returns-clause-looked : goal.returns-clause-looked
returns-clause-looked g c = record {
  table = refl;
  rows = c.cells_of_row.ensures.looked;
  indexes = no_looks c.args.group.now.indexes.items;
  batches = refl;
  points = refl;
  last = refl;
  horizon = refl;
}
