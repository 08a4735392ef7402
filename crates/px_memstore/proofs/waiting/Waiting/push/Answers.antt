use Rattle.std.proofs.Common.{arith}
use Rattle.px_memstore.specs.inner.Waiting.{waiting_room}
use Rattle.px_memstore.proofs.waiting.Waiting.push.Goals as goal

pub push_reserved-requires : goal.push_reserved-requires
unfolding waiting_room
push_reserved-requires c = (let q = c.requires.cells in omega arith)

pub push_reserved-requires-2 : goal.push_reserved-requires-2
unfolding waiting_room
push_reserved-requires-2 c = (let q = c.requires.places in omega arith)

pub returns-clause-room : goal.returns-clause-room
unfolding waiting_room
returns-clause-room c = (let a = c.push_reserved.ensures.capacity in let b = c.push_reserved-2.ensures.capacity in omega arith)
