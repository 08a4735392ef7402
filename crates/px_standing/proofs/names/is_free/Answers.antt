use Rattle.std.proofs.lemmas.Bool.{false≢true}
use Rattle.std.proofs.Common.{◌∙◌, sym}
use Rattle.px_standing.proofs.SameNames.{used}
use Rattle.px_standing.proofs.names.is_free.Goals as goal

pub returns-else-is_none : goal.returns-else-is_none
returns-else-is_none c = ((λ found. absurd (false≢true (sym c.if-is_none.false ∙ found))), (λ unused. absurd (used c.args.standing.now c.args.name.now c.table_place.result c.is_none.result c.is_none.ensures c.if-is_none.false c.table_place.ensures.found c.table_place.ensures.named unused)))
