-- A region of an index that refuses room.
use Rattle.std.specs.Prelude.{◌≡◌, ℕ, List, Some, slice_get}
use Rattle.px_values.specs.declared.name.IndexId.{IndexId}
use Rattle.px_group.specs.declared.group.Group.{Group}
use Rattle.px_group.specs.declared.group.IndexRegion.{IndexRegion}

-- the region of a table's index of this number refuses room, for a reason that the table, the place of the index in it, and the index tell
pub record IsRefusedIn (groups : List Group) (i : IndexId) (Why : Group → ℕ → IndexRegion → Type 0) : Type 0 where
  pub place : ℕ
  pub group : Group
  pub at : slice_get groups place ≡ Some group
  pub part : ℕ
  pub index : IndexRegion
  pub of : slice_get group.indexes.items part ≡ Some index
  pub id : index.index.id ≡ i
  pub refused : Why group part index
