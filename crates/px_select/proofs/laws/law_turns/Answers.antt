use Rattle.px_planned.specs.Queries.{query_of}
use Rattle.px_scan.proofs.Turning.{fits-kept, starts}
use Rattle.px_select.proofs.Turning.{ends-as, steps-on, waits-on}
use Rattle.px_select.proofs.laws.law_turns.Goals as goal

pub returns-clause-others : goal.returns-clause-others
returns-clause-others g c p scn s k k' h f = fits-kept g.S.Steps.sound (query_of p) scn s k k' h f

pub returns-clause-starts : goal.returns-clause-starts
returns-clause-starts g c p scn s k h b i = starts g.S.Steps.sound (query_of p) scn s k h b i

pub returns-clause-steps : goal.returns-clause-steps
returns-clause-steps g c p scn k0 k k' old new h t = steps-on g.S.Steps.sound p scn k0 k k' old new h t

pub returns-clause-waits : goal.returns-clause-waits
returns-clause-waits g c p scn k0 k k' old new stamp h t = waits-on g.S.Steps.sound p scn k0 k k' old new stamp h t

pub returns-clause-ends : goal.returns-clause-ends
returns-clause-ends g c p scn k0 k k' old new r h t = ends-as g.S.Steps.sound p scn k0 k k' old new r h t
