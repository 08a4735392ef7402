use Rattle.px_pieces.proofs.Bytewise.{scale_fits}
use Rattle.px_pieces.proofs.read.scale.Goals as goal

pub pow-requires : goal.pow-requires
pow-requires c = scale_fits c.args.behind c.requires
