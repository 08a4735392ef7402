use Rattle.std.proofs.Common.{◌≡◌, take}
use Rattle.std.specs.Prelude.{IsTrue, map}
use Rattle.px_outside.specs.OnDisk.{Passes, Stays}
use Rattle.px_wal.specs.SnapshotOf.{file_data}
use Rattle.px_files.specs.Calls.{opening_calls}
use Rattle.px_files.proofs.Opened.{AreOpen}
use Rattle.px_files.proofs.open.open_files.Given as goal

abbrev pub invariant-loop-entry : goal.invariant-loop-entry
invariant-loop-entry g l = record {
  open_ : AreOpen g.D.Disk l.region l.disk (map file_data (take l.entry-index l.entries)) l.files.items;
  seen : g.D.Disk.seen l.disk ≡ g.D.Disk.seen l.fn.disk;
  quiet : Stays g.D.Disk l.fn.disk l.disk;
  counts : Passes g.D.Disk l.fn.disk l.disk (opening_calls l.files.items);
}
