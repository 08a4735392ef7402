-- How many calls of the disk it takes to open regions.
use Rattle.std.specs.Prelude.{ℕ, List, All}
use Rattle.px_outside.specs.Disk.{Image}
use Rattle.px_region.specs.Calls.{IsOpenedBy}

-- for each of the regions of an image so many
abbrev pub AreOpenedBy : Image → List ℕ → (calls : ℕ → ℕ) → Type 0
AreOpenedBy image numbers calls = All (λ n. IsOpenedBy n image (calls n)) numbers
