use Rattle.std.proofs.Common.{◌≡◌, ◌≤◌, ◌-◌, List}
use Rattle.px_outside.specs.OnDisk.{Passes, Stays}
use Rattle.px_cells.specs.CellData.{CellData}
use Rattle.px_cursor.specs.Cursor.{IsAt, IsSameRange}
use Rattle.px_cursor.proofs.cursor.Cursor.fill.Given as goal

abbrev pub decreases-loop-self : goal.decreases-loop-self
decreases-loop-self g l = l.self.limit - l.self.next

abbrev pub invariant-loop-self : goal.invariant-loop-self
invariant-loop-self g l = record {
  at : (left : List CellData) → IsAt g.D.Disk l.fn.self l.fn.disk left → IsAt g.D.Disk l.self l.disk left;
  range : IsSameRange l.fn.self l.self;
  seen : g.D.Disk.seen l.disk ≡ g.D.Disk.seen l.fn.disk;
  quiet : Stays g.D.Disk l.fn.disk l.disk;
  next : l.fn.self.next ≤ l.self.next;
  counts : Passes g.D.Disk l.fn.disk l.disk (l.self.next - l.fn.self.next);
}
