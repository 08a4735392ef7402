use Rattle.px_recovery.proofs.Fresh.{nothing_sound}
use Rattle.px_recovery.proofs.Round.{sound_stands, stands_sound}
use Rattle.px_recovery.proofs.law_sound.Goals as goal

pub returns : goal.returns
returns c = record { nothing = nothing_sound; sound = stands_sound; stands = sound_stands }
