use Rattle.px_trail.proofs.Lasting.{quiet-same, wrote-here, wrote-else}
use Rattle.px_trail.proofs.States.{state-stays, decided-stays}
use Rattle.px_trail.proofs.laws.law_states.Goals as goal

pub returns-clause-quiet : goal.returns-clause-quiet
returns-clause-quiet c b es e may quiet = quiet-same b es e may quiet

pub returns-clause-named : goal.returns-clause-named
returns-clause-named c b es e t s rows legal is may f r p w on change = wrote-here b es e t s rows legal is may f r p w on change

pub returns-clause-unnamed : goal.returns-clause-unnamed
returns-clause-unnamed c b es e t s rows legal is may f r p off = wrote-else b es e t s rows legal is may f r p off

pub returns-clause-decided : goal.returns-clause-decided
returns-clause-decided c b t p es more legal decided low = decided-stays b t p es more legal decided low

pub returns-clause-stays : goal.returns-clause-stays
returns-clause-stays c b t r p es more legal decided low drawn = state-stays b t r p es more legal decided low drawn
