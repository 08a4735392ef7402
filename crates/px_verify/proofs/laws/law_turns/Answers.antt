use Rattle.px_verify.proofs.Later.{fits-kept}
use Rattle.px_verify.proofs.Stepping.{ends_as, starts, steps_on, waits_on}
use Rattle.px_verify.proofs.laws.law_turns.Goals as goal

pub returns-clause-others : goal.returns-clause-others
returns-clause-others g c t i s k k' h f = fits-kept g.S.Steps.sound t i s k k' h f

pub returns-clause-starts : goal.returns-clause-starts
returns-clause-starts g c t i s k h = starts g.S.Steps.sound t i s k h

pub returns-clause-steps : goal.returns-clause-steps
returns-clause-steps g c t i k0 k k' old new h r = steps_on g.S.Steps.sound t i k0 k k' old new h r

pub returns-clause-waits : goal.returns-clause-waits
returns-clause-waits g c t i k0 k k' old new stamp h r = waits_on g.S.Steps.sound t i k0 k k' old new stamp h r

pub returns-clause-ends : goal.returns-clause-ends
returns-clause-ends g c t i k0 k k' old new e h r = ends_as g.S.Steps.sound t i k0 k k' old new e h r
