-- What stands in some files stands there after calls on others.
use Rattle.std.proofs.Common.{ℕ, ◌≤◌, List, subst, arith}
use Rattle.px_outside.specs.Disk.{Image, IsLeftBy, TouchesOnlyBy}
use Rattle.px_outside.specs.Standing.{StandsIn}
use Rattle.px_outside.specs.declared.disk.Disk.{Ghosts}

module _ {D : Type 0} (d : Ghosts D) (old new : D) (files : ℕ → Type 0) (P : Image → Type 0) (stands : StandsIn d old files P)
    (touched : ℕ → Type 0) (touches : TouchesOnlyBy d.calls d.left d.seen old new touched) (apart : (file : ℕ) → files file → touched file → ⊥) where
  -- calls on other files leave it so,
  pub stands_kept : StandsIn d new files P
  stands_kept = record { each = λ image left. stands.each image (λ file own. touches.others (d.calls new) file (image file) touches.later (apart file own) (left file own)) }

  -- and so does each stop in them
  pub stands_left : (moment : ℕ) (image : Image) → d.calls old ≤ moment → IsLeftBy d.left new moment image → P image
  stands_left moment image since is = stands.each image (λ file own. touches.others moment file (image file) since (apart file own) (is file))

-- what stands in its files stands in each image that a stop leaves now
pub stands_now : {D : Type 0} (d : Ghosts D) (disk : D) (files : ℕ → Type 0) (P : Image → Type 0)
    → ((x : D) (moment file : ℕ) (bytes : List ℕ) → d.left x moment file bytes → moment ≤ d.calls x) → StandsIn d disk files P
    → (moment : ℕ) (image : Image) → d.calls disk ≤ moment → IsLeftBy d.left disk moment image → P image
stands_now d disk files P up_to_now stands moment image since is =
    stands.each image (λ file own. subst (λ (m : ℕ). d.left disk m file (image file)) (let up = up_to_now disk moment file (image file) (is file) in omega arith) (is file))
