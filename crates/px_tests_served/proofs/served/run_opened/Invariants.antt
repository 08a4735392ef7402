use Rattle.std.proofs.Common.{false}
use Rattle.px_recovery.specs.Base.{IsSoundFolder, base_of}
use Rattle.px_opening.specs.Opened.{folder_in}
use Rattle.px_server.specs.Others.{beginning_at}
use Rattle.px_tests_served.proofs.served.run_opened.Given as goal

abbrev pub ghosts-run_over-B-Based : goal.ghosts-run_over-B-Based
ghosts-run_over-B-Based g a = record { base = base_of (folder_in a.opened); damaged = λ file place. false }

abbrev pub ghosts-run_over-B-Founded : goal.ghosts-run_over-B-Founded
ghosts-run_over-B-Founded g a = record { sound = IsSoundFolder (folder_in a.opened); premise = ⊥; began = beginning_at g.D.Disk a.disk; times = g.C.Clock.times a.clock; lookback = a.lookback }
