-- When the marks of a change are closed in an index.
use Rattle.std.specs.Prelude.{◌≡◌, ℕ, Bool, true, false}
use Rattle.px_world.specs.Shape.{WorldShape, has_key}
use Rattle.px_world.specs.World.{Status, Verified, World}
use Rattle.px_world.specs.Events.{Event, Begin, Mark, Write, Verify, End, Raise, Forget, Fix, Birth, Base, Ready, Stop}

-- the version at the new key is verified, and an old key that differs has a family marker
pub record IsClosed {K S X A : Type 0} (n : WorldShape K S X A) (new old : S) (status : K → Status) (fam : K → Bool) : Type 0 where
  pub new_verified : (k : K) → has_key n k new ≡ true → status k ≡ Verified
  pub old_retired : (k : K) → has_key n k old ≡ true → has_key n k new ≡ false → fam k ≡ true

-- the marks of the change of this stamp are closed
abbrev pub Closed : {K S X A : Type 0} → WorldShape K S X A → World K S X → ℕ → Type 0
Closed n w t = IsClosed n (w.new t) (w.old t) (λ k. w.status k t) (λ k. w.fam k t)

-- the event makes no new index
abbrev pub IsNoBirth : {K A : Type 0} → Event K A → Type 0
IsNoBirth (Begin t a) = Unit {0}
IsNoBirth (Mark t) = Unit {0}
IsNoBirth (Write t) = Unit {0}
IsNoBirth (Verify t) = Unit {0}
IsNoBirth (End t) = Unit {0}
IsNoBirth (Raise h) = Unit {0}
IsNoBirth (Forget own) = Unit {0}
IsNoBirth (Fix k t) = Unit {0}
IsNoBirth (Birth b) = ⊥
IsNoBirth Base = Unit {0}
IsNoBirth Ready = Unit {0}
IsNoBirth (Stop o h) = Unit {0}
