use Rattle.std.proofs.Common.{None}
use Rattle.px_tests_served.proofs.Sights.{did-open}
use Rattle.px_tests_served.proofs.late.doubt_of.Goals as goal

pub doubt_at-doubt-requires : goal.doubt_at-doubt-requires
doubt_at-doubt-requires g c = record { «open» = did-open _ _ c.args.table None c.in-Ok.point c.in-Ok.ensures.ok }
