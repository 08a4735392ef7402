-- What definitions rest on.
use Rattle.std.specs.Prelude.{◌<◌, ◌≤◌, ◌+◌}
use Rattle.px_values.specs.Limits.{most_of}
use Rattle.px_values.specs.declared.limit.Limit.TheVariants.{Ids, Stamps}
use Rattle.px_tables.specs.declared.index.NewIndex.{NewIndex}
use Rattle.px_trail.specs.Trail.{IsFreeName, catalogue_of, last_of}
use Rattle.px_calls.specs.Causes.{TableStands}
use Rattle.px_calls.specs.Known.{IsRunning, Known}

-- nothing hinders that the index is made
pub record MayMakeIndex (k : Known) (what : NewIndex) : Type 0 where
  pub running : IsRunning k
  pub stands : TableStands k what.table.0
  pub free : IsFreeName (catalogue_of k.base k.seen) what.name
  pub numbers : (catalogue_of k.base k.seen).next + 2 ≤ most_of Ids + 1
  pub stamps : last_of k.base what.table.0 k.seen < most_of Stamps
