-- Calls that leave the folder or another one that is told, or of which each image is told: a server goes on from there, with other parts of its own.
use Rattle.std.proofs.Common.{◌≡◌, ◌<◌, ◌≤◌, ◌⊎◌, ◌+◌, inl, inr, ℕ, true, Option, Some, None, List, [], ◌∷◌, ◌++◌, false}
use Rattle.std.specs.Prelude.{IsTrue}
use Rattle.px_outside.specs.Disk.{Image, IsLeftBy}
use Rattle.px_outside.specs.declared.disk.Disk.{Ghosts}
use Rattle.px_trail.specs.declared.entry.Act.TheVariants.{Shut}
use Rattle.px_trail.specs.declared.entry.Entry.{Entry}
use Rattle.px_trail.specs.Lasting.{lasting}
use Rattle.px_trail.specs.Legal.{MayCome}
use Rattle.px_trail.specs.Trail.{Base, closing_step}
use Rattle.px_recovery.specs.Folder.{StandsOn}
use Rattle.px_recovery.specs.Kept.{FolderGoesOn, IsServer, LeavesFolder, MovesFolder, Parts}
use Rattle.px_recovery.specs.Stands.{StandsAfter}
use Rattle.px_recovery.proofs.Server.{kept_server, late_server, step_server, stopped_server}
use Rattle.px_recovery.proofs.Steps.{left_stands}
use Rattle.px_server.proofs.Noted.{server_goes, with_parts}

one_of : {A : Type 0} → A ⊎ A → A
one_of (inl a) = a
one_of (inr a) = a

module _ {D : Type 0} (d : Ghosts D) (tells_left : (x : D) (moment file : ℕ) (bytes : List ℕ) → d.left x moment file bytes → IsTrue d.tells)
    (up_to_now : (x : D) (moment file : ℕ) (bytes : List ℕ) → d.left x moment file bytes → moment ≤ d.calls x) (b : Base) (premise : Type 0) (Has Then : Parts D)
    (old : D) (es : List Entry) (late : Option Entry) (closed : Option ℕ) (k : IsServer d b premise Has old es late closed) (running : closed ≡ None) (new : D) (later : d.calls old ≤ d.calls new)
    (past : premise → IsTrue d.tells → (moment : ℕ) (image : Image) → moment < d.calls old → IsLeftBy d.left new moment image → IsLeftBy d.left old moment image) where
  abbrev Given : Parts D
  Given = λ disk ys f v. premise

  abbrev Told : Parts D
  Told = λ disk ys f v. premise × IsTrue d.tells

  given_server : IsServer d b premise Given old es late closed
  given_server = with_parts d b premise Has Given old es late closed k (λ open_ given tells.
      let goes = k.goes_on running given tells in
      record { folder = goes.folder; groups = goes.groups; stands = goes.stands; explains = goes.explains; has = given })

  goes_now : premise → IsTrue d.tells → FolderGoesOn d b Has old es
  goes_now given tells = k.goes_on running given tells

  module _ (es' : List Entry) where
    left_then : ((goes : FolderGoesOn d b Has old es) → LeavesFolder d b old new es' goes.folder) → FolderGoesOn d b Given old es → (moment : ℕ) (image : Image) → d.calls old ≤ moment → IsLeftBy d.left new moment image
        → StandsAfter b es image ⊎ StandsAfter b es' image
    left_then leaves given moment image since is = (let
        goes = goes_now given.has (tells_left new moment 0 (image 0) (is 0))
        in left_stands d b old new es es' goes.folder goes.groups goes.explains (leaves goes) moment image since is)

    given_then : ((goes : FolderGoesOn d b Has old es) → MovesFolder d b Then old new es' goes.folder) → premise → IsTrue d.tells → FolderGoesOn d b Given old es → FolderGoesOn d b Given new es'
    given_then moves given tells before = (let
        m = moves (goes_now given tells)
        in record { folder = m.left.folder; groups = m.left.groups; stands = m.on; explains = m.left.explains; has = given })

    goes_then : ((goes : FolderGoesOn d b Has old es) → MovesFolder d b Then old new es' goes.folder) → premise → IsTrue d.tells → FolderGoesOn d b Then new es'
    goes_then moves given tells = (let
        m = moves (goes_now given tells)
        in record { folder = m.left.folder; groups = m.left.groups; stands = m.on; explains = m.left.explains; has = m.has })

  -- no entry
  pub changed_server : ((goes : FolderGoesOn d b Has old es) → MovesFolder d b Then old new es goes.folder) → IsServer d b premise Then new es late closed
  changed_server moves =
      with_parts d b premise Given Then new es late closed
      (kept_server d tells_left up_to_now b premise Given old es late closed given_server running new later past
      (λ goes moment image since is. one_of (left_then es (λ g. (moves g).left) goes moment image since is)) (given_then es moves))
      (λ open_ given tells. goes_then es moves given tells)

  -- no entry, where each image that a stop may leave is told by itself
  module _ (images : (goes : FolderGoesOn d b Has old es) → (moment : ℕ) (image : Image) → d.calls old ≤ moment → IsLeftBy d.left new moment image → StandsAfter b es image) where
    each_image : FolderGoesOn d b Given old es → (moment : ℕ) (image : Image) → d.calls old ≤ moment → IsLeftBy d.left new moment image → StandsAfter b es image
    each_image given moment image since is = images (goes_now given.has (tells_left new moment 0 (image 0) (is 0))) moment image since is

    pub stepped_server : ((goes : FolderGoesOn d b Has old es) → FolderGoesOn d b Then new es) → IsServer d b premise Then new es late closed
    stepped_server moves =
        with_parts d b premise Given Then new es late closed
        (kept_server d tells_left up_to_now b premise Given old es late closed given_server running new later past each_image
        (λ given tells before. let m = moves (goes_now given tells) in record { folder = m.folder; groups = m.groups; stands = m.stands; explains = m.explains; has = given }))
        (λ open_ given tells. moves (goes_now given tells))

    -- or a call of which failed
    pub halted_server : (shut : Entry) (call : ℕ) → shut.act ≡ Shut call → shut.calls ≡ d.calls new → IsServer d b premise Then new (es ++ shut ∷ []) None (Some call)
    halted_server shut call shut-is shut_at =
        with_parts d b premise Given Then new (es ++ shut ∷ []) None (Some call)
        (stopped_server d tells_left up_to_now b premise Given old es late closed given_server running new later past shut call shut-is shut_at each_image) (λ none. absurd cc)

  -- an entry that lasts
  pub lasting_server : d.calls new ≤ d.calls old + 4 → (e : Entry) → lasting e ≡ true → e.calls ≡ d.calls new → MayCome b es e → closing_step None e.act ≡ None
      → ((goes : FolderGoesOn d b Has old es) → MovesFolder d b Then old new (es ++ e ∷ []) goes.folder) → IsServer d b premise Then new (es ++ e ∷ []) late closed
  lasting_server four e lasts at may unshut moves =
      with_parts d b premise Given Then new (es ++ e ∷ []) late closed
      (step_server d tells_left up_to_now b premise Given old es late closed given_server running new later past four e lasts at (λ given tells. may) unshut
      (left_then (es ++ e ∷ []) (λ g. (moves g).left)) (given_then (es ++ e ∷ []) moves))
      (λ open_ given tells. goes_then (es ++ e ∷ []) moves given tells)

  -- an entry that doesn't last, behind calls that leave the folder as it is told without it
  pub noted_step : (e : Entry) → lasting e ≡ false → e.calls ≡ d.calls new → MayCome b es e → closing_step closed e.act ≡ closed → (left : (goes : FolderGoesOn d b Has old es) → LeavesFolder d b old new es goes.folder)
      → ((goes : FolderGoesOn d b Has old es) → StandsOn d new (left goes).folder) → ((goes : FolderGoesOn d b Has old es) → MovesFolder d b Then old new (es ++ e ∷ []) goes.folder) → IsServer d b premise Then new (es ++ e ∷ []) late closed
  noted_step e quiet at may unshut left on moves = (let
      mid : IsServer d b premise Told new es late closed =
      with_parts d b premise Given Told new es late closed
      (kept_server d tells_left up_to_now b premise Given old es late closed given_server running new later past (λ goes moment image since is. one_of (left_then es left goes moment image since is))
      (λ given tells before. (let
      goes = goes_now given tells
      in record { folder = (left goes).folder; groups = (left goes).groups; stands = on goes; explains = (left goes).explains; has = given })))
      (λ open_ given tells. (let
      goes = goes_now given tells
      in record { folder = (left goes).folder; groups = (left goes).groups; stands = on goes; explains = (left goes).explains; has = (given, tells) }))
      in server_goes d tells_left up_to_now b premise Told Then new es late closed mid e at quiet may unshut (λ open_ before. goes_then (es ++ e ∷ []) moves before.has.0 before.has.1))

  module _ (shut : Entry) (call : ℕ) (shut-is : shut.act ≡ Shut call) (shut_at : shut.calls ≡ d.calls new) where
    closed_parts : (o : Option Entry) → IsServer d b premise Given new (es ++ shut ∷ []) o (Some call) → IsServer d b premise Then new (es ++ shut ∷ []) o (Some call)
    closed_parts o s = with_parts d b premise Given Then new (es ++ shut ∷ []) o (Some call) s (λ none. absurd cc)

    -- a failed call, with nothing under way
    pub shut_server : ((goes : FolderGoesOn d b Has old es) → LeavesFolder d b old new es goes.folder) → IsServer d b premise Then new (es ++ shut ∷ []) None (Some call)
    shut_server leaves =
        closed_parts None (stopped_server d tells_left up_to_now b premise Given old es late closed given_server running new later past shut call shut-is shut_at
        (λ goes moment image since is. one_of (left_then es leaves goes moment image since is)))

    -- or with the entry u
    pub late_entry : d.calls new ≤ d.calls old + 4 → (u : Entry) → lasting u ≡ true → u.calls ≡ d.calls new → MayCome b es u
        → ((goes : FolderGoesOn d b Has old es) → LeavesFolder d b old new (es ++ u ∷ []) goes.folder) → IsServer d b premise Then new (es ++ shut ∷ []) (Some u) (Some call)
    late_entry four u lasts at may leaves =
        closed_parts (Some u) (late_server d tells_left up_to_now b premise Given old es late closed given_server running new later past shut call shut-is shut_at four u lasts at (λ given tells. may)
        (left_then (es ++ u ∷ []) leaves))
