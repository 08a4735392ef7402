use Rattle.px_resolve.specs.Literals.{literal_faults}
use Rattle.px_resolve.proofs.Walks.{in_front}
use Rattle.px_create.proofs.splits.check_point.Goals as goal

pub returns-in-Err : goal.returns-in-Err
returns-in-Err c = in_front (literal_faults c.args.column.ty c.args.literal.now) _ c.in-Err.fault c.in-Err.ensures
