-- An image stands for one thing at most.
use Rattle.std.proofs.Common.{◌≡◌, ℕ}
use Rattle.px_outside.specs.Disk.{Image}
use Rattle.px_flushing.proofs.Parts.{read_once}
use Rattle.px_region.specs.Region.{RegionData, RegionStands}

pub stands_once : (number : ℕ) (image : Image) (s t : RegionData) → RegionStands number image s → RegionStands number image t → s ≡ t
stands_once number image s t one two =
    let same = read_once number image s.horizon t.horizon s.cells t.cells one two in
    λ i. record { cells = same.1 i; horizon = same.0 i }
