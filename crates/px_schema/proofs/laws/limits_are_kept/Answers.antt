use Rattle.px_schema.proofs.Counts.{after_within, fresh_within}
use Rattle.px_schema.proofs.laws.limits_are_kept.Goals as goal

pub returns-clause-fresh : goal.returns-clause-fresh
returns-clause-fresh c = fresh_within

pub returns-clause-after : goal.returns-clause-after
returns-clause-after c = after_within
