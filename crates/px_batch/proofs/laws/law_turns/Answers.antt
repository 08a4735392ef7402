use Rattle.px_batch.proofs.Turning.{ends_as, fits-kept, starts, steps_on, waits_on}
use Rattle.px_batch.proofs.laws.law_turns.Goals as goal

pub returns-clause-others : goal.returns-clause-others
returns-clause-others g c table cs s k k' h f = fits-kept g.S.Steps.sound table cs s k k' h f

pub returns-clause-starts : goal.returns-clause-starts
returns-clause-starts g c table cs k f = starts g.S.Steps.sound table cs k f

pub returns-clause-steps : goal.returns-clause-steps
returns-clause-steps g c table cs k0 k k' old new h t = steps_on g.S.Steps.sound table cs k0 k k' old new h t

pub returns-clause-waits : goal.returns-clause-waits
returns-clause-waits g c table cs k0 k k' old new stamp h t = waits_on g.S.Steps.sound table cs k0 k k' old new stamp h t

pub returns-clause-ends : goal.returns-clause-ends
returns-clause-ends g c table cs k0 k k' old new r h t = ends_as g.S.Steps.sound table cs k0 k k' old new r h t
