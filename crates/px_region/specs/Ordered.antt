-- What is ordered to be flushed.
use Rattle.std.specs.Prelude.{◌≡◌, ◌≤◌, ℕ}
use Rattle.px_wal.specs.Manifest.{named_snapshot}
use Rattle.px_region.specs.declared.region.Region.{Region}

-- the number up to which its manifest says that its log is flushed
abbrev pub flushed_of : Region → ℕ
flushed_of region = (named_snapshot region.manifest).flushed

-- all that stands in its log is ordered to be flushed
abbrev pub IsFlushOrdered : Region → Type 0
IsFlushOrdered region = region.wal.last ≤ region.ordered

-- all that is ordered is flushed
abbrev pub HasFlushed : Region → Type 0
HasFlushed region = region.ordered ≤ flushed_of region

-- the same is ordered, and no batch came
pub record IsSameOrder (old new : Region) : Type 0 where
  pub ordered : new.ordered ≡ old.ordered
  pub last : new.wal.last ≡ old.wal.last
