use Rattle.px_schema.specs.Fresh.{fresh_right}
use Rattle.px_schema.proofs.StaysRight.{after_right}
use Rattle.px_schema.proofs.laws.what_stands_fits.Goals as goal

pub returns-clause-fresh : goal.returns-clause-fresh
returns-clause-fresh c = fresh_right

pub returns-clause-after : goal.returns-clause-after
returns-clause-after c = after_right
