-- A region of which no file was ever written.
use Rattle.std.specs.Prelude.{◌≡◌, ℕ, [], IsTrue}
use Rattle.px_outside.specs.OnDisk.{Only}
use Rattle.px_outside.specs.declared.disk.Disk.{Ghosts}
use Rattle.px_wal.specs.Files.{HasFile}
use Rattle.px_wal.specs.Manifest.{IsFreshManifest}
use Rattle.px_wal.specs.Wal.{IsFreshLog}
use Rattle.px_flushing.specs.Flushing.{IsFreshFlushing}
use Rattle.px_region.specs.Region.{RegionData}
use Rattle.px_region.specs.declared.region.Region.{Region}

-- nothing is in it, and nothing is promised
pub record IsFreshRegion (number : ℕ) (region : Region) : Type 0 where
  pub number_is : region.number ≡ number
  pub wal : IsFreshLog number region.wal
  pub manifest : IsFreshManifest number region.manifest
  pub flushing : IsFreshFlushing number region.flushing
  pub store : region.store.cells ≡ []
  pub cells : region.cells ≡ 0
  pub bytes : region.bytes ≡ 0
  pub promised : region.promised ≡ 0
  pub promised_bytes : region.promised_bytes ≡ 0
  pub looked : region.looked ≡ 0
  pub horizon : region.horizon ≡ 0

-- the disk tells that no file of the region has a byte, and a stop leaves none there
pub record IsRegionBlank {D : Type 0} (d : Ghosts D) (number : ℕ) (disk : D) : Type 0 where
  pub tells : IsTrue d.tells
  pub only : (file : ℕ) → HasFile number file → Only d disk file
  pub none : (file : ℕ) → HasFile number file → d.seen disk file ≡ []

-- what such a region has
abbrev pub no_data : RegionData
no_data = record { cells = []; horizon = 0 }
