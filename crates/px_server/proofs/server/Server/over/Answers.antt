use Rattle.std.specs.Prelude.{[]}
use Rattle.px_recovery.specs.Base.{base_of}
use Rattle.px_opening.specs.Opened.{folder_in}
use Rattle.px_server.proofs.Others.{others_first}
use Rattle.px_server.proofs.Stamping.{first_by_clock, same_by_clock}
use Rattle.px_server.proofs.Started.{kept_first}
use Rattle.px_server.proofs.server.Server.over.Goals as goal

pub invariant_of-result : goal.invariant_of-result
invariant_of-result g c = (
  kept_first c.args.opened c.requires.right g.D.Disk g.met.D.Disk.told c.args.disk g.B.Based.base c.requires.base g.B.Founded.sound g.B.Founded.premise g.B.Founded.began c.requires.sound c.requires.disk c.requires.told (others_first g.D.Disk (base_of (folder_in c.args.opened)) g.B.Founded.began g.met.D.Disk.up_to_now c.args.disk c.requires.began) c.in-Some.beside.standing c.in-Some.ensures.standing
      c.in-Some.beside.trail c.in-Some.ensures.trail.0 c.in-Some.ensures.trail.1,
  (
    c.in-Some.ensures.frame,
    same_by_clock g.C.Clock g.B.Founded.times g.B.Based.base g.B.Founded.lookback c.args.lookback c.args.clock [] (first_by_clock g.C.Clock g.B.Founded.times g.B.Based.base g.B.Founded.lookback c.args.lookback c.args.clock c.requires.times c.requires.lookback) c.in-Some.beside.trail.entries c.in-Some.ensures.trail.0,
  ),
)
