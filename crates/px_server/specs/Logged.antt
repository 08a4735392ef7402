-- The tables that a server shows are on its disk, and the cells that it counts of each are those of the logs there.
use Rattle.std.specs.Prelude.{◌≡◌, List, map}
use Rattle.std.specs.List.{AllByRecursion}
use Rattle.px_outside.specs.declared.disk.Disk.{Ghosts}
use Rattle.px_trail.specs.Trail.{Base}
use Rattle.px_trail.specs.declared.entry.Entry.{Entry}
use Rattle.px_group.specs.declared.group.Group.{Group}
use Rattle.px_recovery.specs.Folder.{FolderData}
use Rattle.px_server.specs.Kept.{HasTallied, IsOnDisk}
use Rattle.px_server.specs.Shown.{LoggedCells, logged_in}

-- Each count is that of a table that stands with all its maintained indexes, and their regions go on from the disk: so each counter is that of the
-- cells in the region's log there above the flushed number (`counted` of `Holds`).
pub record AreLogged {D : Type 0} (d : Ghosts D) (b : Base) (disk : D) (es : List Entry) (logged : List LoggedCells) : Type 0 where
  pub groups : List Group
  pub folder : FolderData
  pub stand : AllByRecursion (HasTallied b es) groups
  pub on : AllByRecursion (IsOnDisk d disk folder) groups
  pub counts : logged ≡ map logged_in groups

-- Each table that is shown stands with all its maintained indexes, and their regions go on from the disk.
pub record AreOnDisk {D : Type 0} (d : Ghosts D) (b : Base) (disk : D) (es : List Entry) (groups : List Group) : Type 0 where
  pub folder : FolderData
  pub stand : AllByRecursion (HasTallied b es) groups
  pub on : AllByRecursion (IsOnDisk d disk folder) groups
