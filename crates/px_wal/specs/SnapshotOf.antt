-- What contracts see of a snapshot.
use Rattle.std.specs.Prelude.{List, map}
use Rattle.px_wal.specs.Snapshot.{FileData, SnapshotData}
use Rattle.px_wal.specs.declared.snapshot.FileEntry.{FileEntry}
use Rattle.px_wal.specs.declared.snapshot.Snapshot.{Snapshot}

abbrev pub file_data : FileEntry → FileData
file_data f = record { local = f.local; len = f.len; cells = f.cells }

-- the files of a snapshot
abbrev pub files_of : Snapshot → List FileData
files_of s = map file_data s.files.items

abbrev pub snapshot_of : Snapshot → SnapshotData
snapshot_of s = record { flushed = s.flushed; horizon = s.horizon; stamp = s.stamp; compactions = s.compactions; files = map file_data s.files.items }
