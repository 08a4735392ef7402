-- What the trail tells of the marks of a batch.
use Rattle.std.specs.Prelude.{◌≡◌, ◌==◌, ◌&&◌, ℕ, Bool, true, false, slice_get, List, Some}
use Rattle.px_trail.specs.declared.entry.Act.{Act}
use Rattle.px_trail.specs.declared.entry.Act.TheVariants.{Phase}
use Rattle.px_trail.specs.declared.entry.Entry.{Entry}

-- the act tells that they are closed
abbrev pub tells_verified : ℕ → ℕ → Act → Bool
tells_verified t s (Phase u r phase) = (u.0 == t) && ((r == s) && (phase == 3))
tells_verified t s act = false

-- an entry does
pub record HasVerifiedEntry (es : List Entry) (t s : ℕ) : Type 0 where
  pub place : ℕ
  pub entry : Entry
  pub is : slice_get es place ≡ Some entry
  pub tells : tells_verified t s entry.act ≡ true
