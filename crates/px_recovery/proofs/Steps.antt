-- Calls of a server that leave its folder, or another one that is told.
use Rattle.std.proofs.Common.{◌≡◌, ◌<◌, ◌≤◌, ◌⊎◌, ◌+◌, inl, inr, ℕ, true, Option, Some, None, List, [], ◌∷◌, ◌++◌}
use Rattle.std.specs.Prelude.{IsTrue}
use Rattle.px_outside.specs.Disk.{Image, IsLeftBy}
use Rattle.px_outside.specs.declared.disk.Disk.{Ghosts}
use Rattle.px_trail.specs.declared.entry.Act.TheVariants.{Shut}
use Rattle.px_trail.specs.declared.entry.Entry.{Entry}
use Rattle.px_trail.specs.Lasting.{lasting}
use Rattle.px_trail.specs.Legal.{MayCome}
use Rattle.px_trail.specs.Trail.{Base, closing_step}
use Rattle.px_groupworld.specs.Group.{GroupData}
use Rattle.px_recovery.specs.Folder.{FolderData, StandsFor}
use Rattle.px_recovery.specs.Kept.{FolderGoesOn, IsServer, LeavesFolder, MovesFolder, Parts}
use Rattle.px_recovery.specs.Stands.{Explains, StandsAfter}
use Rattle.px_recovery.proofs.Notes.{tells_itself}
use Rattle.px_recovery.proofs.Server.{kept_server, late_server, step_server, stopped_server}

-- an image of a folder that is told stands for the trail
pub folder_stands : (b : Base) (es : List Entry) (f : FolderData) (v : ℕ → GroupData) (image : Image) → Explains b es f v → StandsFor image f → StandsAfter b es image
folder_stands b es f v image told stands = record { folder = f; stands = stands; told = es; as_told = tells_itself b es; groups = v; explains = told }

module _ {D : Type 0} (d : Ghosts D) (b : Base) (old new : D) (es es' : List Entry) (f : FolderData) (v : ℕ → GroupData) (told : Explains b es f v) (leaves : LeavesFolder d b old new es' f) where
  pub left_stands : (moment : ℕ) (image : Image) → d.calls old ≤ moment → IsLeftBy d.left new moment image → StandsAfter b es image ⊎ StandsAfter b es' image
  left_stands moment image since is = elim (leaves.leaves.each moment image since is) [
    | inl a ↦ inl (folder_stands b es f v image told a)
    | inr z ↦ inr (folder_stands b es' leaves.folder leaves.groups image leaves.explains z)
  ]

one_of : {A : Type 0} → A ⊎ A → A
one_of (inl a) = a
one_of (inr a) = a

module _ {D : Type 0} (d : Ghosts D) (told : (x : D) (moment file : ℕ) (bytes : List ℕ) → d.left x moment file bytes → IsTrue d.tells)
    (up_to_now : (x : D) (moment file : ℕ) (bytes : List ℕ) → d.left x moment file bytes → moment ≤ d.calls x) (b : Base) (premise : Type 0) (Has : Parts D)
    (old : D) (es : List Entry) (late : Option Entry) (closed : Option ℕ) (keeps : IsServer d b premise Has old es late closed) (running : closed ≡ None) (new : D) (later : d.calls old ≤ d.calls new)
    (past : premise → IsTrue d.tells → (moment : ℕ) (image : Image) → moment < d.calls old → IsLeftBy d.left new moment image → IsLeftBy d.left old moment image) where
  goes_then : (es' : List Entry) → ((goes : FolderGoesOn d b Has old es) → MovesFolder d b Has old new es' goes.folder) → FolderGoesOn d b Has old es → FolderGoesOn d b Has new es'
  goes_then es' moves goes = let m = moves goes in record { folder = m.left.folder; groups = m.left.groups; stands = m.on; explains = m.left.explains; has = m.has }

  left_then : (es' : List Entry) → ((goes : FolderGoesOn d b Has old es) → LeavesFolder d b old new es' goes.folder) → FolderGoesOn d b Has old es → (moment : ℕ) (image : Image) → d.calls old ≤ moment → IsLeftBy d.left new moment image
      → StandsAfter b es image ⊎ StandsAfter b es' image
  left_then es' leaves goes = left_stands d b old new es es' goes.folder goes.groups goes.explains (leaves goes)

  pub wrote_server : d.calls new ≤ d.calls old + 4 → (e : Entry) → lasting e ≡ true → e.calls ≡ d.calls new → (premise → IsTrue d.tells → MayCome b es e) → closing_step None e.act ≡ None → ((goes : FolderGoesOn d b Has old es) → MovesFolder d b Has old new (es ++ e ∷ []) goes.folder)
      → IsServer d b premise Has new (es ++ e ∷ []) late closed
  wrote_server four e lasts at may unshut moves =
      step_server d told up_to_now b premise Has old es late closed keeps running new later past four e lasts at may unshut (left_then (es ++ e ∷ []) (λ goes. (moves goes).left)) (λ given tells. goes_then (es ++ e ∷ []) moves)

  pub marked_server : ((goes : FolderGoesOn d b Has old es) → MovesFolder d b Has old new es goes.folder) → IsServer d b premise Has new es late closed
  marked_server moves =
      kept_server d told up_to_now b premise Has old es late closed keeps running new later past (λ goes moment image since is. one_of (left_then es (λ g. (moves g).left) goes moment image since is)) (λ given tells. goes_then es moves)

  module _ (shut : Entry) (call : ℕ) (shut-is : shut.act ≡ Shut call) (shut_at : shut.calls ≡ d.calls new) where
    pub failed_server : d.calls new ≤ d.calls old + 4 → (u : Entry) → lasting u ≡ true → u.calls ≡ d.calls new → (premise → IsTrue d.tells → MayCome b es u) → ((goes : FolderGoesOn d b Has old es) → LeavesFolder d b old new (es ++ u ∷ []) goes.folder)
        → IsServer d b premise Has new (es ++ shut ∷ []) (Some u) (Some call)
    failed_server four u lasts at may leaves = late_server d told up_to_now b premise Has old es late closed keeps running new later past shut call shut-is shut_at four u lasts at may (left_then (es ++ u ∷ []) leaves)

    pub unmarked_server : ((goes : FolderGoesOn d b Has old es) → LeavesFolder d b old new es goes.folder) → IsServer d b premise Has new (es ++ shut ∷ []) None (Some call)
    unmarked_server leaves =
        stopped_server d told up_to_now b premise Has old es late closed keeps running new later past shut call shut-is shut_at (λ goes moment image since is. one_of (left_then es leaves goes moment image since is))
