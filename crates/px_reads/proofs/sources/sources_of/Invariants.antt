use Rattle.std.proofs.Common.{◌≡◌, ◌≤◌, List, take}
use Rattle.std.specs.Prelude.{IsTrue}
use Rattle.std.specs.Option.{option_copied}
use Rattle.px_outside.specs.OnDisk.{Stays}
use Rattle.px_cells.specs.CellData.{CellData}
use Rattle.px_cells.specs.Order.{IsAscending}
use Rattle.px_reads.specs.inner.Ends.{IsRangeOf}
use Rattle.px_reads.specs.Range.{IsWithin}
use Rattle.px_reads.specs.Reads.{HaveLists}
use Rattle.px_reads.proofs.Lists.{GiveParts}
use Rattle.px_reads.proofs.sources.sources_of.Given as goal

abbrev pub invariant-loop-read : goal.invariant-loop-read
invariant-loop-read g l = record {
  give : (lists : List (List CellData)) → IsTrue g.D.Disk.tells → HaveLists g.D.Disk l.files l.fn.disk lists → IsAscending l.newer → IsAscending l.older → IsRangeOf (option_copied l.range.only) l.range.low.now (option_copied l.range.high)
      → GiveParts g.D.Disk l.sources.items l.disk l.newer l.older (IsWithin l.range.low.now (option_copied l.range.high)) (take l.read-index lists);
  seen : g.D.Disk.seen l.disk ≡ g.D.Disk.seen l.fn.disk;
  quiet : Stays g.D.Disk l.fn.disk l.disk;
  faults : g.D.Disk.faults l.fn.disk ≤ g.D.Disk.faults l.disk;
}
