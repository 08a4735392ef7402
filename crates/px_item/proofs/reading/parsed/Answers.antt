use Rattle.std.proofs.Common.{◌∙◌, sym}
use Rattle.px_item.specs.Right as right
use Rattle.px_item.proofs.reading.parsed.Goals as goal

pub returns-then-not-is_built : goal.returns-then-not-is_built
returns-then-not-is_built c = (right.is_not_built c.args.statement c.requires (sym c.is_built.ensures ∙ c.if-not-is_built.true) c.refused.ensures.says, c.refused.ensures.first)

pub returns-then-is_some : goal.returns-then-is_some
returns-then-is_some c = (right.is_under_scn c.args.statement c.requires (sym c.changes.ensures ∙ c.if-changes.true) (sym c.is_some.ensures ∙ c.if-is_some.true) c.refused-then-is_some.ensures.says, c.refused-then-is_some.ensures.first)
