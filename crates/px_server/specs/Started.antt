-- A server begins over a folder that was opened.
use Rattle.std.specs.Prelude.{◌≡◌, ◌≤◌, ℕ, List}
use Rattle.std.specs.List.{All}
use Rattle.px_outside.specs.Disk.{Image}
use Rattle.px_outside.specs.OnDisk.{IsLeft, LeavesOnly, Only}
use Rattle.px_outside.specs.declared.disk.Disk.{Ghosts}
use Rattle.px_catalog.specs.Catalogue.{HasCatalogue}
use Rattle.px_recovery.specs.Base.{IsSound, IsSoundFolder}
use Rattle.px_recovery.specs.Folder.{FolderData, StandsFor, StandsOn}
use Rattle.px_recovery.specs.Stands.{Explains}
use Rattle.px_groupworld.specs.Group.{GroupData}
use Rattle.px_trail.specs.Trail.{Base}
use Rattle.px_trail.specs.declared.entry.Entry.{Entry}
use Rattle.px_region.specs.Region.{RegionHolds, data_of}
use Rattle.px_region.specs.declared.region.Region.{Region}
use Rattle.px_opening.specs.Opened.{all_regions, folder_in}
use Rattle.px_opening.specs.declared.opened.Opened.{Opened}

-- The premise of a run: no call was made, a stop leaves what reads give, and the folder is sound.
pub record StartsSound {D : Type 0} (d : Ghosts D) (disk : D) : Type 0 where
  pub calls : d.calls disk ≡ 0
  pub only : (file : ℕ) → Only d disk file
  pub sound : IsSound (d.seen disk)

-- calls at each moment of which what the folder stands for stays
abbrev pub KeepsFolder : {D : Type 0} → Ghosts D → D → D → Type 0
KeepsFolder d old new = (f : FolderData) → StandsFor (d.seen old) f → StandsOn d old f → 1 ≤ f.standing.next → LeavesOnly d old new (λ moment image. StandsFor image f)

-- the region goes on from what was read of it
abbrev pub HoldsOwn : {D : Type 0} → Ghosts D → D → Region → Type 0
HoldsOwn d disk r = RegionHolds d r disk (data_of r)

-- What was opened is sound, each image that a stop may leave of any moment so far stands for it, and so does the disk, from which catalogue
-- and regions go on.
pub record IsOpenedOn {D : Type 0} (d : Ghosts D) (disk : D) (o : Opened) : Type 0 where
  pub sound : IsSoundFolder (folder_in o)
  pub left : (moment : ℕ) (image : Image) → IsLeft d disk moment image → StandsFor image (folder_in o)
  pub stands : StandsOn d disk (folder_in o)
  pub catalogue : HasCatalogue d o.catalog disk
  pub regions : All (HoldsOwn d disk) (all_regions o)

-- Whatever a stop leaves, the disk stands for a folder that base and entries tell.
pub record StandsBy {D : Type 0} (d : Ghosts D) (b : Base) (disk : D) (es : List Entry) : Type 0 where
  pub folder : FolderData
  pub groups : ℕ → GroupData
  pub stands : StandsOn d disk folder
  pub explains : Explains b es folder groups
