use Rattle.std.proofs.Common.{arith}
use Rattle.px_memstore.specs.inner.Waiting.{waiting_room}
use Rattle.px_memstore.proofs.waiting.Waiting.room.Goals as goal

pub returns : goal.returns
unfolding waiting_room
returns c = (let a = c.capacity.ensures in let b = c.capacity-2.ensures in let m = c.min.ensures in omega arith)
