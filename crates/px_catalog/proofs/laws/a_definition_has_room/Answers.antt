use Rattle.px_catalog.proofs.Sizes.{body_long}
use Rattle.px_catalog.proofs.laws.a_definition_has_room.Goals as goal

pub returns : goal.returns
returns c = body_long
