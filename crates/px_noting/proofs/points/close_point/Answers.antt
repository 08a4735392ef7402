use Rattle.std.proofs.Common.{refl}
use Rattle.px_noting.proofs.Removed.{released_in}
use Rattle.px_noting.proofs.points.close_point.Goals as goal

pub returns-clause-released : goal.returns-clause-released
returns-clause-released c = record {
  same = record { table = refl; rows = refl; indexes = refl; batches = refl; last = refl; horizon = refl };
  points = released_in c.args.seat c.args.stamp c.args.group.now.points.items c.as_slice.result.now c.place_of-place.result c.remove.new.self.items c.as_slice.ensures.value c.place_of-place.ensures.within c.place_of-place.ensures.seat c.place_of-place.ensures.stamp c.remove.ensures.items;
}
