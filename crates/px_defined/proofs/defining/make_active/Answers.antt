use Rattle.std.proofs.Common.{refl}
use Rattle.px_defined.proofs.Lists.{item_at}
use Rattle.px_defined.proofs.defining.make_active.Goals as goal

pub returns : goal.returns
returns c = record {
  beside = record { table = refl; rows = refl; batches = refl; points = refl; horizon = refl };
  index = c.index_mut.result.now;
  is = item_at c.args.group.now.indexes.items c.args.place c.index_mut.result.now c.requires c.index_mut.ensures.value;
  indexes = refl;
  last = refl;
}
