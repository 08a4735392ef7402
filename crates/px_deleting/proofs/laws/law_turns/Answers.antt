use Rattle.px_deleting.proofs.Whole.{begins, done-kept, ends-as, fits-kept, steps-on, waits-on}
use Rattle.px_deleting.proofs.laws.law_turns.Goals as goal

pub returns-clause-others : goal.returns-clause-others
returns-clause-others g c p s k k' h f = fits-kept g.S.Steps.sound p s k k' h f

pub returns-clause-done : goal.returns-clause-done
returns-clause-done g c p own s k k' h d = done-kept g.S.Steps.sound p own s k k' h d

pub returns-clause-starts : goal.returns-clause-starts
returns-clause-starts g c p s k h can = begins g.S.Steps.sound p s k h can

pub returns-clause-steps : goal.returns-clause-steps
returns-clause-steps g c p k0 k k' old new h t = steps-on g.S.Steps.sound p k0 k k' old new h t

pub returns-clause-waits : goal.returns-clause-waits
returns-clause-waits g c p k0 k k' old new stamp h t = waits-on g.S.Steps.sound p k0 k k' old new stamp h t

pub returns-clause-ends : goal.returns-clause-ends
returns-clause-ends g c p k0 k k' old new d h t = ends-as g.S.Steps.sound p k0 k k' old new d h t
