use Rattle.px_planned.specs.Queries.{query_of}
use Rattle.px_scan.proofs.Chaining.{settled}
use Rattle.px_scan.proofs.Looking.{at_most}
use Rattle.px_scan.proofs.Mending.{fixed_from_new}
use Rattle.px_select.proofs.laws.law_doubts.Goals as goal

pub returns-clause-looks : goal.returns-clause-looks
returns-clause-looks g c m s os new h = at_most g.S.Steps.sound m s os new h

pub returns-clause-settled : goal.returns-clause-settled
returns-clause-settled g c p scn x r d k os h u e = settled g.S.Steps.sound (query_of p) scn x r d k os h u e

pub returns-clause-fixed : goal.returns-clause-fixed
returns-clause-fixed g c p scn f s k os new h a u e = fixed_from_new g.S.Steps.sound (query_of p) scn f s k os new h a u e
