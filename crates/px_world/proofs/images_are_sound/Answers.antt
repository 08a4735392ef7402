use Rattle.px_world.proofs.Images.{image_sound}
use Rattle.px_world.proofs.images_are_sound.Goals as goal

pub returns : goal.returns
returns g c n w k base fate marked ended old new raised i = image_sound n w k base fate marked ended old new raised i
