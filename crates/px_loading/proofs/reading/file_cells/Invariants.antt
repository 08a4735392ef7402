use Rattle.std.proofs.Common.{◌≡◌, List, take}
use Rattle.std.specs.Prelude.{IsTrue}
use Rattle.px_outside.specs.OnDisk.{Passes, Stays}
use Rattle.px_cells.specs.CellData.{CellData}
use Rattle.px_cells.specs.Order.{IsAscending}
use Rattle.px_file.specs.Files.{HasBlocks}
use Rattle.px_file.specs.Format.{cells_in}
use Rattle.px_loading.proofs.reading.file_cells.Given as goal

abbrev pub invariant-loop-number : goal.invariant-loop-number
invariant-loop-number g l = record {
  read : (blocks : List (List CellData)) → IsTrue g.D.Disk.tells → HasBlocks g.D.Disk l.file l.fn.disk blocks → l.cells.items ≡ cells_in (take l.number blocks);
  sorted : IsAscending l.cells.items;
  seen : g.D.Disk.seen l.disk ≡ g.D.Disk.seen l.fn.disk;
  quiet : Stays g.D.Disk l.fn.disk l.disk;
  counts : Passes g.D.Disk l.fn.disk l.disk l.number;
}
