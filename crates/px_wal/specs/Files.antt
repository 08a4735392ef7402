-- The files of a region.
use Rattle.std.specs.Prelude.{◌≡◌, ℕ, ◌+◌, ◌*◌, ◌<◌}

-- A local file of a region: 0 and 1 are its log, 2 and 3 its manifest.
abbrev pub file_of : ℕ → ℕ → ℕ
file_of region local = region * 4294967296 + local

-- a file of the region
pub record HasFile (region file : ℕ) : Type 0 where
  pub local : ℕ
  pub is : file ≡ file_of region local
  pub short : local < 4294967296
