use Rattle.std.proofs.Common.{ℕ, ◌-◌, subst, arith}
use Rattle.px_cellshapes.specs.Keys.{FitsIncluded}
use Rattle.px_cellshapes.proofs.Tests.{Shows, included_place}
use Rattle.px_cellshapes.proofs.index_cells.fits_place.Goals as goal

pub returns-in_default : goal.returns-in_default
returns-in_default c = included_place c.args.table.now c.args.index.now c.args.cell.now.qualifier c.args.cell.now.kind c.args.cell.now.value c.fits_included.result (omega arith) (subst (λ (n : ℕ). Shows c.fits_included.result (FitsIncluded c.args.table.now c.args.index.now (n - 2) c.args.cell.now.kind c.args.cell.now.value)) c.qualifier.ensures c.fits_included.ensures)
