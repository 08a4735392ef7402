-- What a point sees at an index key.
use Rattle.std.specs.Prelude.{◌≡◌, ℕ, suc, Bool, false, nat_eq, List, [], ◌∷◌, map, Option, None, Some}
use Rattle.std.specs.Cmp.Lexicographic.{pointwise}
use Rattle.px_cells.specs.declared.kind.CellKind.TheVariants.{Put, Delete}
use Rattle.px_cells.specs.Sight.{seen_at}
use Rattle.px_forms.specs.Indexes.{verified_byte}
use Rattle.px_world.specs.World.{read_at}
use Rattle.px_looks.specs.declared.version.KeyVersion.{KeyVersion}
use Rattle.px_looks.specs.Found.{RowContents}
use Rattle.px_looks.specs.Rows.{everywhere}

-- no Delete stands there
abbrev pub HasNoDelete : RowContents → Type 0
HasNoDelete h = (q s : ℕ) → h q s Delete ≡ None

-- the stamp of the put of a column that a point sees
abbrev pub stamp_seen : RowContents → ℕ → ℕ → Option ℕ
stamp_seen h q p = seen_at (everywhere h) [] q p

-- its value
abbrev pub value_seen : RowContents → ℕ → ℕ → Option (List ℕ)
value_seen h q p = read_at (λ s. h q s Put) (stamp_seen h q p)

-- the status is that of a verified version
abbrev pub is_verified : Option (List ℕ) → Bool
is_verified None = false
is_verified (Some v) = pointwise nat_eq v (verified_byte ∷ [])

-- the version of a stamp, with what a point sees of these columns of the table
abbrev pub version_of_stamp : RowContents → List ℕ → ℕ → Option ℕ → Option KeyVersion
version_of_stamp h columns p None = None
version_of_stamp h columns p (Some s) = Some (record { stamp = s; verified = is_verified (h 1 s Put); values = map (λ c. value_seen h (suc (suc c)) p) columns })

-- the version that a point sees: that of the newest put of the status
abbrev pub version_at : RowContents → List ℕ → ℕ → Option KeyVersion
version_at h columns p = version_of_stamp h columns p (stamp_seen h 1 p)
