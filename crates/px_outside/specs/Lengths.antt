-- How long a file may be that a stop leaves.
use Rattle.std.specs.Prelude.{◌≤◌, ℕ, List, length}
use Rattle.px_outside.specs.declared.disk.Disk.{Ghosts}

-- a stop now leaves the file with at most that many bytes
abbrev pub IsWithinLength : {D : Type 0} → Ghosts D → D → (file most : ℕ) → Type 0
IsWithinLength d disk file most = (bytes : List ℕ) → d.left disk (d.calls disk) file bytes → length bytes ≤ most

-- a stop at a moment from old on does
abbrev pub StaysWithin : {D : Type 0} → Ghosts D → (old new : D) → (file most : ℕ) → Type 0
StaysWithin d old new file most = (moment : ℕ) (bytes : List ℕ) → d.calls old ≤ moment → d.left new moment file bytes → length bytes ≤ most
