use Rattle.px_cells.proofs.Bodies.{written_is}
use Rattle.px_cells.proofs.cell.filled.Goals as goal

pub returns : goal.returns
returns c = written_is c.args.key.now c.args.value.now _ _ _ _ c.copy_from_slice.ensures.after c.copy_from_slice-2.ensures.after
