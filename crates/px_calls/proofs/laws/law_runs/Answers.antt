use Rattle.px_calls.proofs.Runs.{ran-adds, ran-closing, ran-made, ran-none, ran-sees, ran-then}
use Rattle.px_calls.proofs.laws.law_runs.Goals as goal

pub returns-clause-none : goal.returns-clause-none
returns-clause-none c k = ran-none k

pub returns-clause-sees : goal.returns-clause-sees
returns-clause-sees c k k' h = ran-sees k k' h

pub returns-clause-adds : goal.returns-clause-adds
returns-clause-adds c k k' act h = ran-adds k k' act h

pub returns-clause-then : goal.returns-clause-then
returns-clause-then c k a e xs ys h j = ran-then k a e xs ys h j

pub returns-clause-made : goal.returns-clause-made
returns-clause-made c k k' acts act h m = ran-made k k' acts act h m

pub returns-clause-closed : goal.returns-clause-closed
returns-clause-closed c k k' acts call h e = ran-closing k k' acts call h e
