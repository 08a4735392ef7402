-- A manifest that the program appends to.
use Rattle.std.specs.Prelude.{◌≡◌, ◌∷◌, [], ℕ, List}
use Rattle.px_outside.specs.Disk.{Image}
use Rattle.px_outside.specs.declared.disk.Disk.{Ghosts}
use Rattle.px_gatelog.specs.Format.{LogRecord}
use Rattle.px_gatelog.specs.GateLog.{is_log_open, room_of_log}
use Rattle.px_gatelog.specs.Records.{HasLog, IsNeverWritten, RecordsStand, has_files}
use Rattle.px_wal.specs.Files.{file_of}
use Rattle.px_wal.specs.Snapshot.{IsLast, IsSnapshot, SnapshotData, manifest_form, nothing_named, snapshot_record}
use Rattle.px_wal.specs.SnapshotOf.{snapshot_of}
use Rattle.px_wal.specs.declared.manifest.Manifest.{Manifest}

-- what a manifest names
abbrev pub named_snapshot : Manifest → SnapshotData
named_snapshot m = snapshot_of m.snapshot

-- the manifest has an open segment
abbrev pub is_manifest_open : Manifest → Type 0
is_manifest_open m = is_log_open m.log

-- how many bytes the newest segment has left
abbrev pub room_of_manifest : Manifest → ℕ
room_of_manifest m = room_of_log m.log

-- the files of a region's manifest
abbrev pub manifest_files : ℕ → ℕ → Type 0
manifest_files region = has_files (file_of region 2) (file_of region 3)

-- the image's files of a region's manifest name this
pub record SnapshotStands (region : ℕ) (image : Image) (s : SnapshotData) : Type 0 where
  pub records : List LogRecord
  pub stands : RecordsStand manifest_form (file_of region 2) (file_of region 3) image records
  pub last : IsLast records s
  pub right : IsSnapshot s

-- The disk tells that the region's manifest names what it says, all of it on the disk, and it goes on from there. A next
-- segment that is laid out begins with the same.
pub record HasSnapshot {D : Type 0} (d : Ghosts D) (region : ℕ) (m : Manifest) (disk : D) : Type 0 where
  pub records : List LogRecord
  pub log : HasLog d manifest_form (file_of region 2) (file_of region 3) disk m.log records (snapshot_record (named_snapshot m) ∷ [])
  pub last : IsLast records (named_snapshot m)
  pub right : IsSnapshot (named_snapshot m)

-- the files stood for what it names, and the manifest goes on from there
pub record IsStarted {D : Type 0} (d : Ghosts D) (region : ℕ) (old new : D) (m : Manifest) : Type 0 where
  pub stood : SnapshotStands region (d.seen old) (named_snapshot m)
  pub has : HasSnapshot d region m new

-- the manifest of a region of which no file was ever written names nothing
pub record IsFreshManifest (region : ℕ) (m : Manifest) : Type 0 where
  pub log : IsNeverWritten m.log (file_of region 2) (file_of region 3)
  pub named : named_snapshot m ≡ nothing_named
