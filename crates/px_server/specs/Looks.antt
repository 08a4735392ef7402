-- What a look at a point reads.
use Rattle.std.specs.Prelude.{◌≡◌, ℕ, List, Option, slice_get, Some, sum_by}
use Rattle.px_values.specs.declared.name.IndexId.{IndexId}
use Rattle.px_calls.specs.declared.query.By.{By}
use Rattle.px_calls.specs.declared.query.FoundKey.{FoundKey}
use Rattle.px_calls.specs.declared.query.Path.{Path}
use Rattle.px_calls.specs.declared.query.Point.{Point}
use Rattle.px_region.specs.declared.region.Region.{Region}
use Rattle.px_group.specs.declared.group.Group.{Group}
use Rattle.px_pointreads.specs.Counted.{HasCountedBy}
use Rattle.px_pointreads.specs.Points.{AreOfIndex, IsReadAt}

-- the region of a table's rows, which counts each row that is looked at
abbrev pub rows_in : Group → Region
rows_in g = g.rows

-- The keys are those of which the point sees a version in its table's index of this number, sure exactly where the version is verified: none of the path
-- is left out that is past `after` and not past `next`
pub record AreOfIndexAt (groups : List Group) (p : Point) (path : Path) (i : IndexId) (after : Option (List ℕ)) (fs : List FoundKey) (next : Option (List ℕ)) : Type 0 where
  pub place : ℕ
  pub group : Group
  pub at : slice_get groups place ≡ Some group
  pub read : IsReadAt group p
  pub of : AreOfIndex group p path i after fs next

-- how many rows of tables were looked at, in all
abbrev pub rows_looked : List Group → ℕ
rows_looked groups = sum_by (λ (g : Group). g.rows.looked) groups

-- so many keys were given of the point's table: they are counted by the region that they were read from
pub record HasCountedOf (old new : List Group) (p : Point) (by : By) (n : ℕ) : Type 0 where
  pub place : ℕ
  pub before : Group
  pub at : slice_get old place ≡ Some before
  pub read : IsReadAt before p
  pub after : Group
  pub at_after : slice_get new place ≡ Some after
  pub counted : HasCountedBy before after by n
