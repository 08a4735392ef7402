use Rattle.std.proofs.Common.{sym}
use Rattle.px_forgetting.proofs.Rows.{end_apart, end_since}
use Rattle.px_forgetting.proofs.keeping.row_len.Goals as goal

pub returns-clause-since : goal.returns-clause-since
returns-clause-since c = end_since c.args.rest.now c.place_after.result c.key.result.now c.index-rest-0.result c.requires.some c.place_after.ensures.above c.index-rest-0.is (sym c.key.ensures)

pub returns-clause-apart : goal.returns-clause-apart
returns-clause-apart c = end_apart c.args.rest.now c.place_after.result c.key.result.now c.place_after.ensures.up_to c.place_after.ensures.above
