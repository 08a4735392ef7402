use Rattle.px_trail.specs.Batches.{Marking}
use Rattle.std.proofs.Common.{None}
use Rattle.px_calls.proofs.Runs.{sees-ticket}
use Rattle.px_tests_served.proofs.Sights.{did-open, sees-open}
use Rattle.px_tests_served.proofs.Uses.{opened-ticket, released-ticket}
use Rattle.px_tests_served.proofs.dropping.with_a_point.Goals as goal

pub close_point-requires : goal.close_point-requires
close_point-requires g c = sees-open _ _ c.in-Ok.point c.in_default-in_use.ensures (did-open _ _ _ None c.in-Ok.point c.in-Ok.ensures.ok)

pub returns : goal.returns
returns g c =
    let opened = opened-ticket _ _ c.args.t.now Marking _ c.in-Ok.point c.in-Ok.ensures.ok c.requires in
    released-ticket _ _ c.args.t.now Marking c.in-Ok.point c.close_point.ensures.adds (sees-ticket _ _ c.args.t.now Marking c.in_default-in_use.ensures opened)
