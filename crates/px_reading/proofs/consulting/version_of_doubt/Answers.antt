use Rattle.std.proofs.Common.{refl}
use Rattle.px_reading.proofs.Looked.{looked_index, no_look}
use Rattle.px_reading.proofs.Looks.{ok_map, part_plain}
use Rattle.px_reading.proofs.Rows.{version_at_place}
use Rattle.px_reading.proofs.consulting.version_of_doubt.Goals as goal

pub key_version-requires : goal.key_version-requires
key_version-requires g c = record { region = part_plain c.args.group.now c.requires.right c.args.place c.requires.there _ c.index_mut-part.result.now c.index_mut-part.ensures.value }

pub returns-clause-seen : goal.returns-clause-seen
returns-clause-seen g c = ok_map _ _ (λ seen h x at. version_at_place c.args.group.now c.args.place _ c.index_mut-part.result.now c.index_mut-part.ensures.value c.args.key.now c.args.stamp c.greater-horizon.result c.greater.result c.greater-horizon.ensures c.greater.ensures seen h x at) c.key_version.result c.key_version.ensures.version

pub returns-clause-looked : goal.returns-clause-looked
returns-clause-looked g c = record {
  table = refl;
  rows = no_look c.args.group.now.rows;
  indexes = looked_index c.args.group.now c.args.place c.requires.there _ c.index_mut-part.result.now c.index_mut-part.ensures.value c.key_version.new.region c.key_version.ensures.alike c.key_version.ensures.promised;
  batches = refl;
  points = refl;
  last = refl;
  horizon = refl;
}
