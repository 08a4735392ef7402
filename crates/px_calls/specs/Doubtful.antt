-- Which versions of index rows are in doubt, as steps tell it where nobody else acts.
use Rattle.std.specs.Prelude.{ℕ, ◌≡◌, ◌≢◌, Bool, true, List}
use Rattle.px_values.specs.declared.name.IndexId.{IndexId}
use Rattle.px_trail.specs.Answers.{IsAmong}
use Rattle.px_calls.specs.declared.fault.StepFault.{StepFault}
use Rattle.px_calls.specs.declared.fault.StepFault.TheVariants.{Busy, NotReady}
use Rattle.px_calls.specs.declared.query.Doubt.{Doubt}
use Rattle.px_calls.specs.declared.query.FoundKey.{FoundKey}
use Rattle.px_calls.specs.declared.query.FoundKey.TheVariants.{InDoubt}
use Rattle.px_calls.specs.declared.query.Point.{Point}
use Rattle.px_calls.specs.Known.{Known}
use Rattle.px_calls.specs.Requires.{HasOpen}

-- the version of a stamp at a key of an index
pub record IndexVersion : Type 0 where
  pub index : IndexId
  pub key : List ℕ
  pub stamp : ℕ

-- the version that a doubt is of, whatever its verdict
abbrev pub version_of : Doubt → IndexVersion
version_of d = record { index = d.index; key = d.key; stamp = d.stamp }

-- each doubt among the keys is of a version that is in doubt at the point
abbrev pub AreDoubtful : (Point → IndexVersion → Bool) → Point → List FoundKey → Type 0
AreDoubtful doubtful p fs = (d : Doubt) → IsAmong (InDoubt d) fs → doubtful p (version_of d) ≡ true

-- what was in doubt at an open point is so still
abbrev pub AreStillDoubtful : Known → (Point → IndexVersion → Bool) → (Point → IndexVersion → Bool) → Type 0
AreStillDoubtful k old new = (p : Point) (v : IndexVersion) → HasOpen k p → old p v ≡ true → new p v ≡ true

-- and so it is at every key but this one
abbrev pub AreOthersDoubtful : Known → List ℕ → (Point → IndexVersion → Bool) → (Point → IndexVersion → Bool) → Type 0
AreOthersDoubtful k key old new = (p : Point) (v : IndexVersion) → HasOpen k p → v.key ≢ key → old p v ≡ true → new p v ≡ true

-- a region has no room before it is flushed, or no open log
abbrev pub IsForRoom : StepFault → Type 0
IsForRoom (Busy region cells bytes) = Unit {0}
IsForRoom (NotReady region) = Unit {0}
IsForRoom f = ⊥
