-- What reading a region leaves of the disk.
use Rattle.std.specs.Prelude.{◌≡◌}
use Rattle.px_outside.specs.OnDisk.{Stays}
use Rattle.px_outside.specs.declared.disk.Disk.{Ghosts}

-- The disk was only read: reads give what they gave, a stop leaves nothing new, and the run is the same. All cells are in memory, so no call was made, and none
-- has failed.
pub record HasOnlyRead {D : Type 0} (d : Ghosts D) (old new : D) : Type 0 where
  pub seen : d.seen new ≡ d.seen old
  pub stays : Stays d old new
  pub calls : d.calls new ≡ d.calls old
  pub faults : d.faults new ≡ d.faults old
  pub first : d.first new ≡ d.first old
