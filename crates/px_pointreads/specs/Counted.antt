-- Which region counts what was looked at.
use Rattle.std.specs.Prelude.{◌≡◌, ℕ, Some, slice_get}
use Rattle.px_values.specs.declared.name.IndexId.{IndexId}
use Rattle.px_calls.specs.declared.query.By.{By}
use Rattle.px_calls.specs.declared.query.By.TheVariants.{Index, Table}
use Rattle.px_group.specs.declared.group.Group.{Group}
use Rattle.px_group.specs.declared.group.IndexRegion.{IndexRegion}
use Rattle.px_looks.specs.Counted.{HasCounted}

-- at least so many keys of the index of this number were looked at
pub record HasCountedIn (old new : Group) (i : IndexId) (n : ℕ) : Type 0 where
  pub place : ℕ
  pub before : IndexRegion
  pub at : slice_get old.indexes.items place ≡ Some before
  pub id : before.index.id ≡ i
  pub after : IndexRegion
  pub at_after : slice_get new.indexes.items place ≡ Some after
  pub counted : HasCounted before.region after.region n

-- so many keys were given by a path: they are counted by the region of the table's rows, or by that of the index
abbrev pub HasCountedBy : Group → Group → By → ℕ → Type 0
HasCountedBy old new Table n = HasCounted old.rows new.rows n
HasCountedBy old new (Index i) n = HasCountedIn old new i n
