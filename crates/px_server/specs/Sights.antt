-- Which versions of index rows are in doubt at a point.
use Rattle.std.specs.Prelude.{Bool, ◌&&◌, nat_eq, nat_le, List}
use Rattle.std.specs.List.{list_any}
use Rattle.px_calls.specs.declared.query.Point.{Point}
use Rattle.px_calls.specs.Doubtful.{IndexVersion}
use Rattle.px_cells.specs.Contents.{value_at}
use Rattle.px_looks.specs.Found.{RowContents, at_key}
use Rattle.px_looks.specs.Versions.{version_at}
use Rattle.px_region.specs.Region.{read_of}
use Rattle.px_shown.specs.Told.{reach_of}
use Rattle.px_tables.specs.declared.index.Index.{Index}
use Rattle.px_group.specs.declared.group.Group.{Group}
use Rattle.px_group.specs.declared.group.IndexRegion.{IndexRegion}
use Rattle.px_repairs.specs.Repairs.{is_doubt}

-- the index has the version's number and was born at or below what the point sees; and of what stands at the key the point sees this version, unverified
abbrev pub is_seen_in : Point → IndexVersion → Index → RowContents → Bool
is_seen_in p v x at = nat_eq x.id.0 v.index.0 && (nat_le x.birth (reach_of p) && is_doubt v.stamp (version_at at x.included (reach_of p)))

abbrev pub has_doubt : Point → IndexVersion → IndexRegion → Bool
has_doubt p v x = is_seen_in p v x.index (at_key (value_at (read_of x.region)) v.key)

-- an index of the point's table, which isn't forgotten above what the point sees, has the version in doubt
abbrev pub table_has_doubt : Point → IndexVersion → Group → Bool
table_has_doubt p v g = nat_eq g.table.id.0 p.table.0 && (nat_le g.horizon (reach_of p) && list_any (has_doubt p v) g.indexes.items)

abbrev pub have_doubt : List Group → Point → IndexVersion → Bool
have_doubt groups p v = list_any (table_has_doubt p v) groups
