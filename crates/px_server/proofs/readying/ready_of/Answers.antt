use Rattle.px_server.proofs.Left.{kept_none, left_none}
use Rattle.px_server.proofs.readying.ready_of.Goals as goal

pub returns-then-group-most-clause-leaves : goal.returns-then-group-most-clause-leaves
returns-then-group-most-clause-leaves g c = left_none c.args.group.now

pub returns-then-group-most-clause-keeps : goal.returns-then-group-most-clause-keeps
returns-then-group-most-clause-keeps g c = kept_none c.args.group.now
