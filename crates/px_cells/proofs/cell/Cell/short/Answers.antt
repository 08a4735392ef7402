use Rattle.px_cells.proofs.Bodies.{key_is, value_is}
use Rattle.px_cells.proofs.cell.Cell.short.Goals as goal

pub returns : goal.returns
returns c =
    let k = key_is c.args.key.now c.args.value.now c.filled.result c.filled.ensures in
    let v = value_is c.args.key.now c.args.value.now c.filled.result c.filled.ensures in
    cc
