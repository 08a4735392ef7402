use Rattle.px_script.proofs.Divisions.{line-added, round-ended}
use Rattle.px_script.proofs.dividing.Division.pass.Goals as goal
use Rattle.std.proofs.Common.{sym, ◌∙◌}

pub returns-then-eq : goal.returns-then-eq
returns-then-eq c = round-ended c.end_round.result c.args.line.now _ _ _ _ (sym c.eq.ensures ∙ c.if-eq.true) c.end_round.ensures

pub returns-else-eq : goal.returns-else-eq
returns-else-eq c = line-added c.add.result c.args.line.now _ _ _ _ (sym c.eq.ensures ∙ c.if-eq.false) c.add.ensures.rounds c.add.ensures.slots
