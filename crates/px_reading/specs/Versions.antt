-- Which versions the keys are of that a look at an index finds.
use Rattle.std.specs.Prelude.{◌≡◌, ℕ, true, false, List, Option, None, Some}
use Rattle.px_calls.specs.Looks.{is_covered, is_on, is_past, key_found}
use Rattle.px_calls.specs.declared.query.FoundKey.{FoundKey}
use Rattle.px_calls.specs.declared.query.FoundKey.TheVariants.{Sure, InDoubt}
use Rattle.px_calls.specs.declared.query.Path.{Path}
use Rattle.px_cells.specs.Contents.{value_at}
use Rattle.px_looks.specs.Found.{at_key}
use Rattle.px_looks.specs.Versions.{version_at}
use Rattle.px_looks.specs.declared.version.KeyVersion.{KeyVersion}
use Rattle.px_region.specs.Region.{read_of}
use Rattle.px_trail.specs.Answers.{IsAmong}
use Rattle.px_group.specs.declared.group.IndexRegion.{IndexRegion}

-- a key is sure where its version is verified, and else in doubt, with the stamp of the version
abbrev pub IsOfVersion : Option KeyVersion → FoundKey → Type 0
IsOfVersion None f = ⊥
IsOfVersion (Some v) (Sure f) = v.verified ≡ true
IsOfVersion (Some v) (InDoubt d) = (v.verified ≡ false) × (d.stamp ≡ v.stamp)

-- the version of a key that a point sees in the index
abbrev pub version_to : IndexRegion → List ℕ → ℕ → Option KeyVersion
version_to x k point = version_at (at_key (value_at (read_of x.region)) k) x.index.included point

-- each key is of the version of it that the point sees
abbrev pub AreOfVersions : IndexRegion → ℕ → List FoundKey → Type 0
AreOfVersions x point fs = (f : FoundKey) → IsAmong f fs → IsOfVersion (version_to x (key_found f) point) f

-- the key is given, sure or in doubt
abbrev pub IsKeyGiven : List ℕ → List FoundKey → Type 0
IsKeyGiven k fs = (f : FoundKey) × IsAmong f fs × (key_found f ≡ k)

-- each key on the path that is past `after` and not past `next` is given where the point sees a version of it
abbrev pub AreAllGiven : IndexRegion → ℕ → Path → Option (List ℕ) → List FoundKey → Option (List ℕ) → Type 0
AreAllGiven x point path after fs next = (k : List ℕ) (v : KeyVersion) → version_to x k point ≡ Some v → is_on path k ≡ true → is_past after k ≡ true → is_covered next k ≡ true → IsKeyGiven k fs
