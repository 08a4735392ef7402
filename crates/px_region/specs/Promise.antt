-- Room in a region.
use Rattle.std.specs.Prelude.{◌≡◌, ◌≤◌, ◌<◌, ◌⊎◌, ◌+◌, ◌*◌, ℕ}
use Rattle.px_wal.specs.Manifest.{is_manifest_open, named_snapshot}
use Rattle.px_wal.specs.Wal.{is_wal_open, room_of_wal}
use Rattle.px_region.specs.declared.region.Region.{Region}

abbrev pub HasOpenLog : Region → Type 0
HasOpenLog region = is_wal_open region.wal

-- the log is open, and a batch appended to it is above the flushed number
abbrev pub IsLogReady : Region → Type 0
IsLogReady region = is_wal_open region.wal × ((named_snapshot region.manifest).flushed ≤ region.wal.last)

-- with so many more, the cells or the bytes in the log and promised pass their limit
abbrev pub PassesLimit : Region → (cells bytes : ℕ) → Type 0
PassesLimit region cells bytes = (16384 < region.cells + region.promised + cells) ⊎ (16777216 < region.bytes + region.promised_bytes + bytes)

-- the log has numbers and bytes for so many more, each cell in a batch of its own
abbrev pub HasLogRoom : Region → (cells bytes : ℕ) → Type 0
HasLogRoom region cells bytes = (region.wal.last + (region.promised + cells) ≤ 18446744073709551615) × (7 + (19 * (region.promised + cells) + region.promised_bytes + bytes) ≤ room_of_wal region.wal)

-- log and manifest are open
abbrev pub IsPrepared : Region → Type 0
IsPrepared region = is_wal_open region.wal × is_manifest_open region.manifest

-- the same list in the same files
pub record IsAlike (old new : Region) : Type 0 where
  pub number : new.number ≡ old.number
  pub wal : new.wal ≡ old.wal
  pub manifest : new.manifest ≡ old.manifest
  pub flushing : new.flushing ≡ old.flushing
  pub horizon : new.horizon ≡ old.horizon
  pub store : new.store.cells ≡ old.store.cells
  pub cells : new.cells ≡ old.cells
  pub bytes : new.bytes ≡ old.bytes
  pub stamps : new.stamps ≡ old.stamps

-- the same room is promised
pub record IsSamePromise (old new : Region) : Type 0 where
  pub cells : new.promised ≡ old.promised
  pub bytes : new.promised_bytes ≡ old.promised_bytes
