-- What a status counts.
use Rattle.std.specs.Prelude.{◌≡◌, ◌⊎◌, ◌==◌, ◌&&◌, ℕ, Bool, filter, length, nat_eq, not, slice_get, List, [], ◌∷◌, Some}
use Rattle.std.specs.List.{All}
use Rattle.std.specs.Cmp.Lexicographic.{pointwise}
use Rattle.px_cells.specs.CellData.{CellData}
use Rattle.px_cells.specs.Visible.{IsView}
use Rattle.px_forms.specs.Indexes.{verified_byte}
use Rattle.px_tables.specs.declared.index.Index.{Index}
use Rattle.px_values.specs.declared.name.TableId.{TableId}
use Rattle.px_region.specs.Region.{read_of}
use Rattle.px_group.specs.declared.group.Group.{Group}
use Rattle.px_group.specs.declared.group.IndexRegion.{IndexRegion}
use Rattle.px_calls.specs.declared.status.IndexCount.{IndexCount}

-- the count of an index, but for its keys
abbrev pub count_as : Index → IndexCount
count_as x = record { index = x.id; name = x.name; state = x.state; unverified = 0 }

-- a count without its keys
abbrev pub bare : IndexCount → IndexCount
bare c = record c { unverified = 0 }

-- the cell is the status of an index row that isn't verified
abbrev pub is_unverified : CellData → Bool
is_unverified c = (c.qualifier == 1) && not (pointwise nat_eq c.value (verified_byte ∷ []))

-- so many of what a point above all stamps sees of these cells are
pub record AreUnverified (cells : List CellData) (n : ℕ) : Type 0 where
  pub seen : List CellData
  pub view : IsView cells 18446744073709551615 seen
  pub count : n ≡ length (filter is_unverified seen)

-- the count is of the keys in the region of the index, or none where the group has none of it
pub record CountsKeys (g : Group) (c : IndexCount) : Type 0 where
  pub keys :
      ((place : ℕ) × (x : IndexRegion) × (slice_get g.indexes.items place ≡ Some x) × (x.index.id ≡ c.index) × AreUnverified (read_of x.region) c.unverified)
      ⊎ (((place : ℕ) (x : IndexRegion) → slice_get g.indexes.items place ≡ Some x → x.index.id ≡ c.index → ⊥) × (c.unverified ≡ 0))

-- so of the table of this number
pub record CountKeys (groups : List Group) (t : TableId) (cs : List IndexCount) : Type 0 where
  pub place : ℕ
  pub group : Group
  pub at : slice_get groups place ≡ Some group
  pub id : group.table.id ≡ t
  pub counts : All (CountsKeys group) cs
