use Rattle.std.proofs.Common.{◌≡◌, ◌≤◌, ◌+◌, ◌∙◌, List, length, refl, arith, rules, subst, sym}
use Rattle.std.specs.Prelude.{vec_capacity, vec_len}
use Rattle.px_beginning.proofs.Leaves.{alike_same}
use Rattle.px_beginning.proofs.Promised.{same_promises}
use Rattle.px_region.proofs.Alike.{alike_refl, alike_then}
use Rattle.px_beginning.proofs.Taking.{alike_from, same_from, taken_from}
use Rattle.px_beginning.specs.inner.Places.{AreLike, SamePromised, TakenFrom}
use Rattle.std.proofs.lemmas.List.{with_items_is}
use Rattle.px_group.specs.declared.group.IndexRegion.{IndexRegion}
use Rattle.px_beginning.specs.Leaves.{AreAlike, AreSamePromises, AreTaken}
use Rattle.px_beginning.proofs.promising.promise.Goals as goal

pub returns-then-is_err-clause-refused : goal.returns-then-is_err-clause-refused
returns-then-is_err-clause-refused c = record { rows = record { cells = refl; bytes = refl }; indexes = same_promises c.args.group.now.indexes.items }

pub returns-then-is_err-clause-leaves : goal.returns-then-is_err-clause-leaves
returns-then-is_err-clause-leaves c = record {
  table = refl;
  rows = alike_refl c.args.group.now.rows;
  indexes = alike_same c.args.group.now.indexes.items;
  batches = c.reserve.ensures.items;
  points = refl;
  last = refl;
  horizon = refl;
}

pub returns-in-Err-clause-refused : goal.returns-in-Err-clause-refused
returns-in-Err-clause-refused c = record { rows = c.in-Err.ensures.refused; indexes = same_promises c.args.group.now.indexes.items }

pub returns-in-Err-clause-leaves : goal.returns-in-Err-clause-leaves
returns-in-Err-clause-leaves c = record {
  table = refl;
  rows = c.take.ensures.alike;
  indexes = alike_same c.args.group.now.indexes.items;
  batches = c.reserve.ensures.items;
  points = refl;
  last = refl;
  horizon = refl;
}

pub returns-in-Ok-clause-taken : goal.returns-in-Ok-clause-taken
returns-in-Ok-clause-taken c =
    let v = c.args.group.now.indexes in
    let ys = c.take_from.new.indexes in
    let rooms = c.args.prepared.now.indexes.items in
    let room : vec_len c.reserve.new.self + 1 ≤ vec_capacity c.reserve.new.self = search rules in
    let like = subst (λ (l : List IndexRegion). AreLike l ys) c.as_mut_slice.ensures.value c.take_from.ensures.like in
    let taken = subst (λ (l : List IndexRegion). TakenFrom 0 l ys rooms) c.as_mut_slice.ensures.value (subst (TakenFrom 0 c.as_mut_slice.result.now ys) c.as_slice.ensures.value c.in-Ok.ensures.taken) in
    let n : length ys ≡ vec_len v = c.take_from.ensures.like.count ∙ c.as_mut_slice.ensures.len in
    record {
      rows = c.in_default.ensures.taken;
      indexes = subst (λ (l : List IndexRegion). AreTaken v.items l rooms) (sym (with_items_is v ys n)) (taken_from v.items ys rooms like.count c.requires taken);
      place = (omega arith);
    }

pub returns-in-Ok-clause-leaves : goal.returns-in-Ok-clause-leaves
returns-in-Ok-clause-leaves c =
    let v = c.args.group.now.indexes in
    let ys = c.take_from.new.indexes in
    let like = subst (λ (l : List IndexRegion). AreLike l ys) c.as_mut_slice.ensures.value c.take_from.ensures.like in
    let n : length ys ≡ vec_len v = c.take_from.ensures.like.count ∙ c.as_mut_slice.ensures.len in
    record {
      table = refl;
      rows = c.take.ensures.alike;
      indexes = subst (λ (l : List IndexRegion). AreAlike v.items l) (sym (with_items_is v ys n)) (alike_from v.items ys like);
      batches = c.reserve.ensures.items;
      points = refl;
      last = refl;
      horizon = refl;
    }

pub returns-in-Err-take_from-clause-refused : goal.returns-in-Err-take_from-clause-refused
returns-in-Err-take_from-clause-refused c =
    let v = c.args.group.now.indexes in
    let ys = c.take_from.new.indexes in
    let t = c.in_default.ensures.taken in
    let g = c.give.ensures.given in
    let t0 = t.0 in let t1 = t.1 in let g0 = g.0 in let g1 = g.1 in
    let like = subst (λ (l : List IndexRegion). AreLike l ys) c.as_mut_slice.ensures.value c.take_from.ensures.like in
    let n : length ys ≡ vec_len v = c.take_from.ensures.like.count ∙ c.as_mut_slice.ensures.len in
    record {
      rows = record { cells = omega arith; bytes = omega arith };
      indexes = subst (λ (l : List IndexRegion). AreSamePromises v.items l) (sym (with_items_is v ys n)) (same_from v.items ys like.count (subst (λ (l : List IndexRegion). SamePromised l ys) c.as_mut_slice.ensures.value c.in-Err-take_from.ensures.refused));
    }

pub returns-in-Err-take_from-clause-leaves : goal.returns-in-Err-take_from-clause-leaves
returns-in-Err-take_from-clause-leaves c =
    let v = c.args.group.now.indexes in
    let ys = c.take_from.new.indexes in
    let like = subst (λ (l : List IndexRegion). AreLike l ys) c.as_mut_slice.ensures.value c.take_from.ensures.like in
    let n : length ys ≡ vec_len v = c.take_from.ensures.like.count ∙ c.as_mut_slice.ensures.len in
    record {
      table = refl;
      rows = alike_then c.args.group.now.rows c.take.new.region c.give.new.region c.take.ensures.alike c.give.ensures.alike;
      indexes = subst (λ (l : List IndexRegion). AreAlike v.items l) (sym (with_items_is v ys n)) (alike_from v.items ys like);
      batches = c.reserve.ensures.items;
      points = refl;
      last = refl;
      horizon = refl;
    }
