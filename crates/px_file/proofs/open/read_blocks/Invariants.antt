use Rattle.std.proofs.Common.{◌≡◌, ◌≤◌, ◌+◌, ◌-◌, length}
use Rattle.px_outside.specs.OnDisk.{Passes, Stays}
use Rattle.px_file.specs.inner.Walk.{IsWalked}
use Rattle.px_file.proofs.Walking.{ended_bit, steps_left}
use Rattle.px_file.proofs.open.read_blocks.Given as goal

abbrev pub decreases-loop-alloc : goal.decreases-loop-alloc
decreases-loop-alloc g l = steps_left (length l.walk.index.entries.items) l.walk.more

abbrev pub invariant-loop-alloc : goal.invariant-loop-alloc
invariant-loop-alloc g l = record {
  walked : IsWalked g.D.Disk l.file l.fn.walk l.fn.disk → IsWalked g.D.Disk l.file l.walk l.disk;
  seen : g.D.Disk.seen l.disk ≡ g.D.Disk.seen l.fn.disk;
  quiet : Stays g.D.Disk l.fn.disk l.disk;
  grown : length l.fn.walk.index.entries.items ≤ length l.walk.index.entries.items;
  counts : Passes g.D.Disk l.fn.disk l.disk ((length l.walk.index.entries.items - length l.fn.walk.index.entries.items) + ended_bit l.walk.more);
  window : length l.window ≡ 163855;
}
