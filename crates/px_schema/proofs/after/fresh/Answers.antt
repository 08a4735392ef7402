use Rattle.px_schema.specs.Fresh.{fresh_read, fresh_standing}
use Rattle.std.proofs.Common.{ap}
use Rattle.px_pieces.specs.Pieces.{ok_same}
use Rattle.px_schema.specs.Fresh.{fresh_bytes}
use Rattle.px_schema.specs.Records.{in_body, snapshot_in_body}
use Rattle.px_schema.proofs.after.fresh.Goals as goal

pub returns-in-Ok : goal.returns-in-Ok
returns-in-Ok c = ok_same (snapshot_in_body 1 fresh_bytes) c.in-Ok.standing fresh_standing c.in-Ok.ensures (ap (in_body (λ s. s)) fresh_read)
