use Rattle.std.specs.Option.{option_copied}
use Rattle.std.proofs.Common.{refl, ◌∙◌}
use Rattle.px_reading.proofs.Looked.{got, looked_index, no_look}
use Rattle.px_reading.proofs.Looks.{index_found, keys_found, ok_map, part_plain, whole_found}
use Rattle.px_reading.proofs.Versions.{versions_found}
use Rattle.px_reading.proofs.look.look_keys.Goals as goal

pub look_keys-requires-clause-region : goal.look_keys-requires-clause-region
look_keys-requires-clause-region g c = part_plain c.args.group.now c.requires.right c.args.place c.requires.there _ c.index_mut-part.result.now c.index_mut-part.ensures.value

pub returns-clause-keys : goal.returns-clause-keys
returns-clause-keys g c = ok_map _ _ (λ n h x at p table index path by from to. keys_found c.args.group.now c.requires.right c.args.low.now (option_copied c.args.high) (option_copied c.args.after) c.args.point n.found n.next c.args.place c.requires.there _ c.index_mut-part.result.now c.index_mut-part.ensures.value h x at p table index path by from to) c.look_keys.result c.look_keys.ensures.next

pub returns-clause-rows : goal.returns-clause-rows
returns-clause-rows g c = ok_map _ _ (λ n h x at. index_found c.args.group.now c.requires.right c.args.low.now (option_copied c.args.high) (option_copied c.args.after) c.args.point n.found n.next c.args.place c.requires.there _ c.index_mut-part.result.now c.index_mut-part.ensures.value h x at) c.look_keys.result c.look_keys.ensures.next

pub returns-clause-versions : goal.returns-clause-versions
returns-clause-versions g c = ok_map _ _ (λ n h x at. versions_found c.args.group.now.table x c.index_mut-part.result.now (c.index_mut-part.ensures.value ∙ got c.args.group.now.indexes.items c.args.place x _ at) c.args.low.now (option_copied c.args.high) (option_copied c.args.after) c.args.point n.found n.next h) c.look_keys.result c.look_keys.ensures.next

pub returns-clause-whole : goal.returns-clause-whole
returns-clause-whole g c = ok_map _ _ (λ n h x at path from to. whole_found c.args.group.now c.requires.right c.args.low.now (option_copied c.args.high) (option_copied c.args.after) c.args.point n.found n.next c.args.place c.requires.there _ c.index_mut-part.result.now c.index_mut-part.ensures.value h x at path from to) c.look_keys.result c.look_keys.ensures.next

pub returns-clause-looked : goal.returns-clause-looked
returns-clause-looked g c = record {
  table = refl;
  rows = no_look c.args.group.now.rows;
  indexes = looked_index c.args.group.now c.args.place c.requires.there _ c.index_mut-part.result.now c.index_mut-part.ensures.value c.look_keys.new.region c.look_keys.ensures.alike c.look_keys.ensures.promised;
  batches = refl;
  points = refl;
  last = refl;
  horizon = refl;
}
