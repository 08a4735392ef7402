use Rattle.px_flushing.proofs.Parts.{read_once}
use Rattle.px_flushing.proofs.laws.an_image_is_read_as_one.Goals as goal

pub returns : goal.returns
returns c = read_once
