use Rattle.px_folder.proofs.Same.{one_base, one_sound}
use Rattle.px_folder.proofs.laws.law_one_folder.Goals as goal

pub returns : goal.returns
returns c = record { sound = one_sound; base = one_base }
