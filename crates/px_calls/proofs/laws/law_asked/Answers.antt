use Rattle.px_calls.proofs.Stays.{passes-fits, ran-since, table-was}
use Rattle.px_calls.proofs.Activates.{passes-define}
use Rattle.px_calls.proofs.Bases.{did_based, passes_base}
use Rattle.px_calls.proofs.laws.law_asked.Goals as goal

pub returns-clause-tables : goal.returns-clause-tables
returns-clause-tables g c b t es more x legal low now = table-was b t es more x legal low now

pub returns-clause-fits : goal.returns-clause-fits
returns-clause-fits g c k k' t cs h f = passes-fits k k' t cs h f

pub returns-clause-since : goal.returns-clause-since
returns-clause-since g c k k' acts act n low h m = ran-since k k' acts act n low h m

pub returns-clause-defines : goal.returns-clause-defines
returns-clause-defines g c k k' x h f = passes-define g.S.Steps.sound k k' x h f

pub returns-clause-bases : goal.returns-clause-bases
returns-clause-bases g c k k' p i xs h held may = passes_base g.S.Steps.sound k k' p i xs h held may

pub returns-clause-based : goal.returns-clause-based
returns-clause-based g c k k' p i xs at d r h = did_based k k' p i xs at d r h
