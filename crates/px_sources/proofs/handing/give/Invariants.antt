use Rattle.std.proofs.Common.{◌≡◌, ◌<◌, ◌≤◌, ◌++◌, ℕ, List, take, true}
use Rattle.px_outside.specs.OnDisk.{Stays}
use Rattle.px_cells.specs.CellData.{CellData}
use Rattle.px_merge.specs.Merged.{joined}
use Rattle.px_merge.specs.Settle.{settle}
use Rattle.px_sources.specs.Giving.{begins_row}
use Rattle.px_sources.specs.Sources.{AllGive}
use Rattle.px_sources.proofs.Turns.{HasGiven}
use Rattle.px_sources.proofs.handing.give.Given as goal

abbrev pub invariant-turns : goal.invariant-turns
invariant-turns g l = record {
  given : (lists : List (List CellData)) → AllGive g.D.Disk l.fn.sources l.fn.disk lists → (n : ℕ) × (HasGiven g.D.Disk l.sources l.disk l.last (settle (joined lists)) n l.fn.looked l.looked
      × ((before : List CellData) → g.T.CellTaker.has_taken l.fn.taker before → g.T.CellTaker.has_taken l.taker (before ++ take n (settle (joined lists)))
      × ((i : ℕ) → i < n → begins_row (settle (joined lists)) i ≡ true → g.T.CellTaker.wants l.fn.taker (before ++ take i (settle (joined lists))) ≡ true)));
  same : g.T.CellTaker.wants l.taker ≡ g.T.CellTaker.wants l.fn.taker;
  seen : g.D.Disk.seen l.disk ≡ g.D.Disk.seen l.fn.disk;
  quiet : Stays g.D.Disk l.fn.disk l.disk;
  faults : g.D.Disk.faults l.fn.disk ≤ g.D.Disk.faults l.disk;
  least : l.fn.looked ≤ l.looked;
}
