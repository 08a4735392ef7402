use Rattle.std.proofs.Common.{◌∙◌, not, ap, sym}
use Rattle.std.proofs.lemmas.Bool.{both_ways}
use Rattle.px_cellshapes.proofs.Distinct.{once_more, once_not}
use Rattle.px_cellshapes.proofs.definitions.+are_once.Goals as goal

pub returns-then-not-is_among : goal.returns-then-not-is_among
returns-then-not-is_among t c = once_more c.args.columns.now _ c.are_once.result c.in-len1-up.len_at_least (sym c.is_among.ensures ∙ c.if-not-is_among.true) c.are_once.ensures

pub returns-else-not-is_among : goal.returns-else-not-is_among
returns-else-not-is_among t c = (
  λ e. absurd (both_ways (not c.is_among.result) (ap not c.if-not-is_among.false) e),
  λ o. absurd (once_not c.args.columns.now _ c.in-len1-up.len_at_least (sym c.is_among.ensures ∙ c.if-not-is_among.false) o),
)
