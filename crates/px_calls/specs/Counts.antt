-- What an implementation of the steps may keep that counts.
use Rattle.std.specs.Prelude.{ℕ, ◌+◌, ◌≤◌, min}

-- the count after one call more, up to the greatest number of 64 bits
abbrev pub count_after : ℕ → ℕ
count_after calls = min (calls + 1) 18446744073709551615

-- it rose by so much at least, or stands at the greatest number of 64 bits or above
abbrev pub HasRisenBy : ℕ → ℕ → ℕ → Type 0
HasRisenBy n old new = min (old + n) 18446744073709551615 ≤ new
