use Rattle.std.proofs.Common.{IsTrue}
use Rattle.px_recovery.specs.Base.{IsSoundFolder, base_of}
use Rattle.px_opening.specs.Opened.{folder_in}
use Rattle.px_server.specs.Others.{beginning_at}
use Rattle.px_program.specs.Run.{undamaged}
use Rattle.px_program.specs.inner.Running.{IsOpenedNow, StoodBefore}
use Rattle.px_program.proofs.run.run_opened.Given as goal

abbrev pub ghosts-run_since-B-Based : goal.ghosts-run_since-B-Based
ghosts-run_since-B-Based g a = record { base = base_of (folder_in a.opened); damaged = undamaged }

abbrev pub ghosts-run_since-B-Founded : goal.ghosts-run_since-B-Founded
ghosts-run_since-B-Founded g a = record { sound = IsSoundFolder (folder_in a.opened); premise = IsTrue g.D.Disk.tells → IsOpenedNow g.D.Disk a.disk a.opened; began = beginning_at g.D.Disk a.disk; times = g.C.Clock.times a.clock; lookback = a.lookback }

abbrev pub ghosts-run_since-B-Since : goal.ghosts-run_since-B-Since
ghosts-run_since-B-Since g a = record { from = g.D.Disk.calls a.disk; all = StoodBefore g.D.Disk a.disk a.opened; was = λ moment file bytes. g.D.Disk.left a.disk moment file bytes }
