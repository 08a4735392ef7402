-- How often a region was looked at.
use Rattle.std.specs.Prelude.{◌≤◌, ◌+◌, ℕ, min}
use Rattle.px_region.specs.declared.region.Region.{Region}

-- at least so many rows more were looked at, or the count stands at its last value
abbrev pub HasCounted : Region → Region → ℕ → Type 0
HasCounted old new n = min (old.looked + n) 18446744073709551615 ≤ new.looked
