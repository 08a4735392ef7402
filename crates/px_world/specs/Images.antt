-- What a folder shows of a world after a stop: other changes over the same cells.
use Rattle.std.specs.Prelude.{◌≡◌, ℕ, ◌<◌, ◌≤◌, Bool, false, true, max}
use Rattle.std.proofs.Common.{suc}
use Rattle.px_world.specs.World.{Fate, Written, World, st, is_undecided}

-- the same cells and numbers, and other changes
abbrev pub image : {K S X : Type 0} → World K S X → S → (ℕ → Fate) → (ℕ → Bool) → (ℕ → Bool) → (ℕ → S) → (ℕ → S) → ℕ → World K S X
image w base fate marked ended old new raised = record w { base = base; fate = fate; is_marked = marked; is_ended = ended; old = old; new = new; raised = raised; is_over = false }

-- nothing is undecided, the changes above kept are the written ones, and the states from kept on are the same
pub record IsImage {K S X : Type 0} (w v : World K S X) : Type 0 where
  pub high : w.kept ≤ max v.birth v.raised
  pub none : (s : ℕ) → is_undecided (v.fate s) ≡ false
  pub all_ended : (t : ℕ) → v.fate t ≡ Written → v.is_ended t ≡ true
  pub chained : (p : ℕ) → v.fate (suc p) ≡ Written → v.old (suc p) ≡ st v p
  pub written : (t : ℕ) → w.kept < t → v.fate t ≡ Written → (w.fate t ≡ Written) × ((v.new t ≡ w.new t) × (v.old t ≡ w.old t))
  pub states : (p : ℕ) → w.kept ≤ p → st v p ≡ st w p
