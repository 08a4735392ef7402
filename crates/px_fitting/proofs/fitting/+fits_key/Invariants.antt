use Rattle.std.proofs.Common.{length}
use Rattle.px_fitting.proofs.fitting.+fits_key.Given as goal

abbrev pub decreases-fits_key : goal.decreases-fits_key
decreases-fits_key l = length l.key.now
