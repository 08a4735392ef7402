use Rattle.std.proofs.Common.{refl}
use Rattle.px_defined.proofs.defining.add_index.Goals as goal

pub returns : goal.returns
returns c = record {
  beside = record { table = refl; rows = refl; batches = refl; points = refl; horizon = refl };
  new = record { index = c.args.index; region = c.fresh-region.result };
  index = refl;
  fresh = c.fresh-region.ensures.fresh;
  indexes = c.push_reserved.ensures.items;
  last = refl;
}
