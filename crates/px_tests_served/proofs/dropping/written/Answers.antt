use Rattle.px_trail.specs.Batches.{Writing}
use Rattle.px_calls.proofs.Runs.{sees-ticket}
use Rattle.px_tests_served.proofs.dropping.written.Goals as goal

pub write-requires : goal.write-requires
write-requires g c = sees-ticket _ _ c.args.t.now Writing c.in_ok-in_use.ensures c.requires
