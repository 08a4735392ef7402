use Rattle.std.proofs.Common.{◌≡◌, ◌+◌, ◌-◌, ◌*◌, ◌≤◌, ◌++◌, take, drop, length}
use Rattle.std.specs.Prelude.{map}
use Rattle.std.specs.List.{AllByRecursion}
use Rattle.px_wal.specs.Snapshot.{IsEntry, files_bytes, wrong_files}
use Rattle.px_wal.specs.SnapshotOf.{file_data}
use Rattle.px_wal.proofs.snapshot_body.read_files.Given as goal

abbrev pub invariant-loop-i : goal.invariant-loop-i
invariant-loop-i l = record {
  long : 26 + 20 * l.i ≤ length l.body;
  left : wrong_files l.count 26 (drop 26 l.body) ≡ wrong_files (l.count - l.i) (26 + 20 * l.i) (drop (26 + 20 * l.i) l.body);
  spelled : take (26 + 20 * l.i) l.body ≡ take 26 l.body ++ files_bytes (map file_data l.files.items);
  counted : length l.files.items ≡ l.i;
  entries : AllByRecursion IsEntry (map file_data l.files.items);
}
