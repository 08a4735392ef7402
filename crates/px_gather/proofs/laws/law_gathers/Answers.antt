use Rattle.px_gather.proofs.Gathering as gathering
use Rattle.px_gather.proofs.laws.law_gathers.Goals as goal

pub returns-clause-none : goal.returns-clause-none
returns-clause-none c f es = gathering.gathered-none f es

pub returns-clause-looks : goal.returns-clause-looks
returns-clause-looks c f k k' after x more rows base seen from path h shows given at = gathering.looks f k k' after x more rows base seen from path h shows given at

pub returns-clause-sure : goal.returns-clause-sure
returns-clause-sure c f es n x fs next rows path free h = gathering.pending-sure f es n x fs next rows path free h

pub returns-clause-doubt : goal.returns-clause-doubt
returns-clause-doubt c f k n d fs next rows held base free h seen = gathering.pending-doubt f k n d fs next rows held base free h seen

pub returns-clause-grows : goal.returns-clause-grows
returns-clause-grows c f es more n fs next rows h = gathering.pending-grows f es more n fs next rows h

pub returns-clause-chunk : goal.returns-clause-chunk
returns-clause-chunk c f es n next rows h = gathering.pending-end f es n next rows h

pub returns-clause-all : goal.returns-clause-all
returns-clause-all c f es rows h = gathering.ended-all f es rows h

pub returns-clause-full : goal.returns-clause-full
returns-clause-full c f es n fs next rows h full = gathering.pending-full f es n fs next rows h full
