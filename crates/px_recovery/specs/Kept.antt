-- What stays true of a server.
use Rattle.std.specs.Prelude.{◌≡◌, ◌≤◌, ◌⊎◌, ◌++◌, ◌∷◌, [], ℕ, IsTrue, List, Option, Some, None}
use Rattle.std.specs.List.{AllByRecursion}
use Rattle.px_outside.specs.OnDisk.{LeavesOnly}
use Rattle.px_outside.specs.declared.disk.Disk.{Ghosts}
use Rattle.px_trail.specs.declared.entry.Entry.{Entry}
use Rattle.px_trail.specs.Legal.{IsLegal}
use Rattle.px_trail.specs.Trail.{Base, closing_call}
use Rattle.px_groupworld.specs.Group.{GroupData}
use Rattle.px_recovery.specs.Folder.{FolderData, StandsFor, StandsOn}
use Rattle.px_recovery.specs.Stands.{Explains, Lasts}

-- what the server's own parts, its catalogue and its groups, have where they go on from a trail and a folder with these tables
abbrev pub Parts : Type 0 → Type 1
Parts D = D → List Entry → FolderData → (ℕ → GroupData) → Type 0

-- The disk stands for a folder that base and entries tell, and the server's parts go on from there.
pub record FolderGoesOn {D : Type 0} (d : Ghosts D) (b : Base) (Has : Parts D) (disk : D) (es : List Entry) : Type 0 where
  pub folder : FolderData
  pub groups : ℕ → GroupData
  pub stands : StandsOn d disk folder
  pub explains : Explains b es folder groups
  pub has : Has disk es folder groups

-- Each image of these calls stands for the folder, or for another one that base and the entries es' tell.
pub record LeavesFolder {D : Type 0} (d : Ghosts D) (b : Base) (old new : D) (es' : List Entry) (f : FolderData) : Type 0 where
  pub folder : FolderData
  pub groups : ℕ → GroupData
  pub leaves : LeavesOnly d old new (λ moment image. StandsFor image f ⊎ StandsFor image folder)
  pub explains : Explains b es' folder groups

-- And the disk after them stands for that one, from which the server's parts go on.
pub record MovesFolder {D : Type 0} (d : Ghosts D) (b : Base) (Has : Parts D) (old new : D) (es' : List Entry) (f : FolderData) : Type 0 where
  pub left : LeavesFolder d b old new es' f
  pub on : StandsOn d new left.folder
  pub has : Has new es' left.folder left.groups

-- The entry that the failed step would have added may come in the place where the server was closed.
pub record IsLate (b : Base) (es : List Entry) (u : Entry) : Type 0 where
  pub before : List Entry
  pub shut : Entry
  pub after : List Entry
  pub splits : es ≡ before ++ shut ∷ after
  pub legal : IsLegal b (before ++ u ∷ [])

-- What is true of every server: each image that a stop may leave of any moment so far recovers, the trail is legal, and one
-- that isn't closed goes on from the disk.
pub record IsServer {D : Type 0} (d : Ghosts D) (b : Base) (premise : Type 0) (Has : Parts D) (disk : D) (es : List Entry) (late : Option Entry) (closed : Option ℕ) : Type 0 where
  pub early : AllByRecursion (λ e. e.calls ≤ d.calls disk) es
  pub lasts : premise → Lasts d b es late disk
  pub legal : premise → IsTrue d.tells → IsLegal b es
  pub goes_on : closed ≡ None → premise → IsTrue d.tells → FolderGoesOn d b Has disk es
  pub unlate : closed ≡ None → late ≡ None
  pub closing : closing_call es ≡ closed
  pub late_is : (u : Entry) → late ≡ Some u → premise → IsTrue d.tells → IsLate b es u
