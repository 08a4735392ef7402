use Rattle.std.proofs.Common.{sym, arith}
use Rattle.px_parse.proofs.Doubts.{none_forbids}
use Rattle.px_parse.proofs.nullness.forbids_null.Goals as goal

pub returns-then-not-has_doubts : goal.returns-then-not-has_doubts
returns-then-not-has_doubts c = sym (none_forbids c.args.table.now.constraint c.args.table.now.columns (grind (arith, c.if-not-has_doubts.true)))
