use Rattle.std.proofs.Common.{◌∙◌}
use Rattle.px_cells.proofs.KeyOrders.{eight_are}
use Rattle.px_cells.proofs.order.word.Goals as goal

pub returns : goal.returns
returns c = c.from_be_bytes.ensures ∙ eight_are c.args.bytes.now c.args.at c.requires
