-- The local numbers of a region's files.
use Rattle.std.specs.Prelude.{◌≡◌, ◌≤◌, ◌<◌, ◌⊎◌, ℕ, List, [], ◌∷◌}
use Rattle.px_wal.specs.Snapshot.{FileData}

-- a file has the local number
abbrev pub IsNamed : List FileData → ℕ → Type 0
IsNamed [] local = ⊥
IsNamed (f ∷ files) local = (f.local ≡ local) ⊎ IsNamed files local

-- the least local number from 4 on that no file has
pub record IsFreeLocal (files : List FileData) (local : ℕ) : Type 0 where
  pub own : 4 ≤ local
  pub short : local < 4294967295
  pub free : IsNamed files local → ⊥
  pub least : (other : ℕ) → 4 ≤ other → other < local → IsNamed files other
