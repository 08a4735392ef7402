use Rattle.px_defining.proofs.Defining.{fits-kept}
use Rattle.px_defining.proofs.laws.law_turns.Goals as goal

pub returns : goal.returns
returns g c = record { others = fits-kept g.S.Steps.sound }
