use Rattle.px_commanding.proofs.Committing as committing
use Rattle.px_commanding.proofs.Counting as counting
use Rattle.px_commanding.proofs.laws.law_turns.Goals as goal

pub returns : goal.returns
returns g c = record { commits = committing.fits-kept g.S.Steps.sound; counts = counting.fits-kept }
