use Rattle.px_reading.proofs.Looked.{still_right, still_shown, still_tallied}
use Rattle.px_reading.proofs.laws.law_looked.Goals as goal

pub returns : goal.returns
returns c = record { right = still_right; tallied = still_tallied; shown = still_shown }
