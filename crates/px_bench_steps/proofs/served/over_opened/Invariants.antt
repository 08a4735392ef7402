use Rattle.std.proofs.Common.{false}
use Rattle.px_recovery.specs.Base.{IsSoundFolder, base_of}
use Rattle.px_opening.specs.Opened.{folder_in}
use Rattle.px_server.specs.Others.{beginning_at}
use Rattle.px_bench_steps.proofs.served.over_opened.Given as goal

abbrev pub ghosts-over-B-Based : goal.ghosts-over-B-Based
ghosts-over-B-Based g a = record { base = base_of (folder_in a.opened); damaged = λ file place. false }

abbrev pub ghosts-over-B-Founded : goal.ghosts-over-B-Founded
ghosts-over-B-Founded g a = record { sound = IsSoundFolder (folder_in a.opened); premise = ⊥; began = beginning_at g.D.Disk a.disk; times = g.C.Clock.times a.clock; lookback = 259200000 }
