use Rattle.std.proofs.Common.{length}
use Rattle.px_sources.proofs.least.+least.Given as goal

abbrev pub decreases-least : goal.decreases-least
decreases-least l = length l.sources.now
