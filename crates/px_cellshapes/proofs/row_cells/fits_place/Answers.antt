use Rattle.std.proofs.Common.{ℕ, ◌-◌, subst, arith}
use Rattle.px_cellshapes.specs.Rows.{FitsColumnCell}
use Rattle.px_cellshapes.proofs.Tests.{Shows, column_place}
use Rattle.px_cellshapes.proofs.row_cells.fits_place.Goals as goal

pub returns-in_default : goal.returns-in_default
returns-in_default c = column_place c.args.table.now c.args.cell.now.qualifier c.args.cell.now.kind c.args.cell.now.value c.fits_column.result (omega arith) (subst (λ (n : ℕ). Shows c.fits_column.result (FitsColumnCell c.args.table.now (n - 2) c.args.cell.now.kind c.args.cell.now.value)) c.qualifier.ensures c.fits_column.ensures)
