use Rattle.std.proofs.Common.{◌≡◌, ◌+◌, ◌*◌, ◌≤◌, ◌++◌, take, length}
use Rattle.std.specs.Prelude.{map}
use Rattle.px_wal.specs.Snapshot.{files_bytes}
use Rattle.px_wal.specs.SnapshotOf.{file_data}
use Rattle.px_wal.proofs.snapshot_body.push_files.Given as goal

abbrev pub invariant-loop-file : goal.invariant-loop-file
invariant-loop-file l = record {
  body : l.frame.body ≡ l.fn.frame.body ++ files_bytes (map file_data (take l.file-index l.files));
  kind : l.frame.kind ≡ l.fn.frame.kind;
  long : length l.frame.body ≡ length l.fn.frame.body + 20 * l.file-index;
  room : l.fn.frame.room ≤ l.frame.room;
}
