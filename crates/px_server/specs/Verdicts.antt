-- What a consultation leaves in a doubt.
use Rattle.std.specs.Prelude.{◌≡◌, ℕ, true, List, Some, slice_get}
use Rattle.px_trail.specs.Trail.{Base}
use Rattle.px_trail.specs.declared.entry.Entry.{Entry}
use Rattle.px_calls.specs.Doubtful.{version_of}
use Rattle.px_calls.specs.declared.query.Doubt.{Doubt}
use Rattle.px_calls.specs.declared.query.Point.{Point}
use Rattle.px_group.specs.declared.group.Group.{Group}
use Rattle.px_group.specs.declared.group.IndexRegion.{IndexRegion}
use Rattle.px_pointreads.specs.Due.{IsSeenBelow, verdict_due}
use Rattle.px_server.specs.Sights.{have_doubt}

-- The verdict that is due of the doubt's version after these entries (`verdict_due` of px_pointreads), in the index of its number. Of a version at or
-- below the horizon it is told where one is seen of its key, as of each that is in doubt at a point.
pub record HasDueVerdict (b : Base) (es : List Entry) (groups : List Group) (d : Doubt) : Type 0 where
  pub place : ℕ
  pub group : Group
  pub at : slice_get groups place ≡ Some group
  pub part : ℕ
  pub index : IndexRegion
  pub of : slice_get group.indexes.items part ≡ Some index
  pub id : index.index.id ≡ d.index
  pub doubted : (p : Point) → have_doubt groups p (version_of d) ≡ true → IsSeenBelow group index d.key d.stamp
  pub verdict_is : IsSeenBelow group index d.key d.stamp → d.verdict ≡ Some (verdict_due b es group index d.key d.stamp)
