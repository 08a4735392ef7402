use Rattle.px_region.proofs.OneStanding.{stands_once}
use Rattle.px_region.proofs.laws.an_image_stands_for_one.Goals as goal

pub returns : goal.returns
returns c = stands_once
