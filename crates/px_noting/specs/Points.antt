-- The open points of a group.
use Rattle.std.specs.Prelude.{◌≡◌, ◌+◌, ◌-◌, ◌==◌, ◌&&◌, ℕ, if◌then◌else◌}
use Rattle.px_group.specs.declared.group.Group.{Group}
use Rattle.px_group.specs.declared.group.OpenPoint.{OpenPoint}
use Rattle.px_group.specs.Group.{points_in}

abbrev pub no_point : OpenPoint
no_point = record { seat = 0; stamp = 0 }

-- all but the points is as it was
pub record IsSameBesidePoints (g g' : Group) : Type 0 where
  pub table : g'.table ≡ g.table
  pub rows : g'.rows ≡ g.rows
  pub indexes : g'.indexes ≡ g.indexes
  pub batches : g'.batches ≡ g.batches
  pub last : g'.last ≡ g.last
  pub horizon : g'.horizon ≡ g.horizon

-- one point more is open, of this seat at this stamp
pub record HasOpened (g g' : Group) (seat s : ℕ) : Type 0 where
  pub same : IsSameBesidePoints g g'
  pub points : (k u : ℕ) → points_in k u g'.points.items ≡ (if (seat == k) && (s == u) then points_in k u g.points.items + 1 else points_in k u g.points.items)

-- one point less
pub record HasReleased (g g' : Group) (seat s : ℕ) : Type 0 where
  pub same : IsSameBesidePoints g g'
  pub points : (k u : ℕ) → points_in k u g'.points.items ≡ (if (seat == k) && (s == u) then points_in k u g.points.items - 1 else points_in k u g.points.items)
