use Rattle.std.proofs.Common.{◌∙◌, ap, not, sym}
use Rattle.px_cellshapes.proofs.Distinct.{distinct_more, distinct_none, distinct_not}
use Rattle.px_cellshapes.proofs.definitions.+are_distinct.Goals as goal

pub returns-in-empty : goal.returns-in-empty
returns-in-empty t c = distinct_none c.args.places.now c.in-empty.len_below

pub returns-then-not-is_part : goal.returns-then-not-is_part
returns-then-not-is_part t c = c.are_distinct.ensures ∙ distinct_more c.args.places.now _ c.in-len1-up.len_at_least (sym c.is_part.ensures ∙ c.if-not-is_part.true)

pub returns-else-not-is_part : goal.returns-else-not-is_part
returns-else-not-is_part t c = ap not c.if-not-is_part.false ∙ distinct_not c.args.places.now _ c.in-len1-up.len_at_least (sym c.is_part.ensures ∙ c.if-not-is_part.false)
