use Rattle.std.proofs.Common.{◌≡◌, ◌≤◌, List}
use Rattle.px_outside.specs.OnDisk.{Stays}
use Rattle.px_cells.specs.CellData.{CellData}
use Rattle.px_sources.specs.Passed.{place_of}
use Rattle.px_sources.specs.Sources.{AllGive}
use Rattle.px_sources.proofs.Sources.{passed_to}
use Rattle.px_sources.proofs.pass.pass.Given as goal

abbrev pub invariant-loop-i : goal.invariant-loop-i
invariant-loop-i g l = record {
  passed : (lists : List (List CellData)) → AllGive g.D.Disk l.fn.sources l.fn.disk lists → AllGive g.D.Disk l.sources l.disk (passed_to (place_of l.last) l.i lists);
  seen : g.D.Disk.seen l.disk ≡ g.D.Disk.seen l.fn.disk;
  quiet : Stays g.D.Disk l.fn.disk l.disk;
  faults : g.D.Disk.faults l.fn.disk ≤ g.D.Disk.faults l.disk;
}
