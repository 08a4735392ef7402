-- The place of a number among others.
use Rattle.std.specs.Prelude.{◌==◌, ◌∷◌, [], ℕ, suc, if◌then◌else◌, List}

-- the place of the first that is this one, or how many there are
abbrev pub first_at : List ℕ → ℕ → ℕ
first_at [] n = 0
first_at (m ∷ ms) n = if m == n then 0 else suc (first_at ms n)
