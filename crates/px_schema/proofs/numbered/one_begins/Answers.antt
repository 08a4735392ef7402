use Rattle.std.proofs.Common.{arith}
use Rattle.px_pieces.proofs.Bytewise.{scale_some}
use Rattle.px_schema.proofs.numbered.one_begins.Goals as goal

pub nonzero_div-from : goal.nonzero_div-from
nonzero_div-from g c = omega (arith, scale_some c.args.behind, c.scale-scale.ensures)
