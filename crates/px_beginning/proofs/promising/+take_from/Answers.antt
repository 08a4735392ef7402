use Rattle.std.proofs.Common.{arith}
use Rattle.px_beginning.proofs.Taking.{refused_behind, refused_here}
use Rattle.px_beginning.proofs.promising.+take_from.Goals as goal

pub returns-in-Err-clause-cause : goal.returns-in-Err-clause-cause
returns-in-Err-clause-cause t c fault e = refused_here c.args.indexes.now c.args.rooms.now c.args.place c.index-indexes-place.result fault (let l = c.if-place-indexes.false in omega arith) (c.in-Err.ensures.cause fault e)

pub returns-in-Err-take_from-clause-cause : goal.returns-in-Err-take_from-clause-cause
returns-in-Err-take_from-clause-cause t c fault e = refused_behind c.args.indexes.now c.args.rooms.now c.args.place c.index-indexes-place.result c.take.new.region fault (let l = c.if-place-indexes.false in omega arith) (c.in-Err-take_from.ensures.cause fault e)
