use Rattle.px_upkeep.proofs.Whole.{fits-kept, starts}
use Rattle.px_upkeep.proofs.laws.law_builds.Goals as goal

pub returns : goal.returns
returns g c = record {
  starts = starts g.S.Steps.sound;
  others = fits-kept g.S.Steps.sound;
}
