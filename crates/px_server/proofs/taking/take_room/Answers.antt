use Rattle.px_server.proofs.Left.{kept_none, left_none}
use Rattle.px_server.proofs.taking.take_room.Goals as goal

pub returns-in-Err-clause-refused : goal.returns-in-Err-clause-refused
returns-in-Err-clause-refused c = (kept_none c.args.group.now, c.in-Err.ensures.refused)

pub returns-in-Err-clause-cause : goal.returns-in-Err-clause-cause
returns-in-Err-clause-cause c = c.in-Err.ensures.cause c.args.group.now c.args.ready.now.prepared

pub returns-in-Err-clause-leaves : goal.returns-in-Err-clause-leaves
returns-in-Err-clause-leaves c = left_none c.args.group.now

pub returns-in-Err-promise-clause-cause : goal.returns-in-Err-promise-clause-cause
returns-in-Err-promise-clause-cause c =
    c.unpromised.ensures c.args.group.now c.args.ready.now.prepared c.args.trail.now.entries c.args.ready.now.started.changes (c.promise.ensures.cause c.in-Err-promise.fault c.in-Err-promise.is)
