use Rattle.std.proofs.Common.{◌≡◌, ◌<◌, ◌∙◌, length, slice_get, Some, refl, inl, inr, arith}
use Rattle.px_server.specs.Upkeep as upkeep
use Rattle.px_server.specs.Upkeep.{IsOrderedIndex, IsWantedIndex}
use Rattle.px_server.proofs.Orders.{got_there, order_stays, set_length, set_next, still_steps, taken_all}
use Rattle.px_server.proofs.upkeep.order_table.Goals as goal

pub loop-place-init : goal.loop-place-init
loop-place-init g c =
    let old = c.args.group.now.rows in
    let o = c.order_region in
    let new = o.new.region in (
      λ disk. upkeep.step _ _ upkeep.still (inl (record {
        rows = record { same = refl; steps = still_steps g.D.Disk g.met.D.Disk.up_to_now disk old new c.args.group.now.horizon o.ensures.alike.number o.ensures.promised };
        stepped = inl (order_stays g.D.Disk disk old new o.ensures.alike o.ensures.read);
      })),
      (o.ensures.ordered, (refl, (tt, λ is. (o.ensures.wanted is, tt)))),
    )

pub loop-place-preserved : goal.loop-place-preserved
loop-place-preserved g c =
    let i = c.loop-place.place in
    let xs = c.loop-place.group.indexes.items in
    let y = c.index_mut.result.now in
    let o = c.order_region-in-loop-place in
    let inv = c.loop-place.invariant in
    let inside : i < length xs = (let t = c.loop-place-test.true in let e = inv.1.1.0 in omega (arith, t, e)) in
    let at : slice_get xs i ≡ Some y = got_there xs i y inside c.index_mut.ensures.value in (
      λ disk. upkeep.step _ _ (inv.0 disk) (inr (record {
        index = record { place = i; index = y; is = at; region = o.new.region; same = refl; indexes = refl; steps = still_steps g.D.Disk g.met.D.Disk.up_to_now disk y.region o.new.region c.loop-place.group.horizon o.ensures.alike.number o.ensures.promised };
        stepped = inl (order_stays g.D.Disk disk y.region o.new.region o.ensures.alike o.ensures.read);
      })),
      (inv.1.0, (set_length xs i _ ∙ inv.1.1.0, (set_next IsOrderedIndex xs i _ inside inv.1.1.1.0 o.ensures.ordered, λ is. ((inv.1.1.1.1 is).0, set_next IsWantedIndex xs i _ inside (inv.1.1.1.1 is).1 (o.ensures.wanted is))))),
    )

pub returns-clause-ordered : goal.returns-clause-ordered
returns-clause-ordered g c =
    let inv = c.loop-place.invariant in
    let xs = c.loop-place.group.indexes.items in
    let over = c.loop-place-test.false in
    let e = inv.1.1.0 in
    record { rows = inv.1.0; indexes = taken_all IsOrderedIndex xs c.loop-place.place (omega (arith, over, e)) inv.1.1.1.0 }

pub returns-clause-wanted : goal.returns-clause-wanted
returns-clause-wanted g c =
    let inv = c.loop-place.invariant in
    let xs = c.loop-place.group.indexes.items in
    let over = c.loop-place-test.false in
    let e = inv.1.1.0 in
    λ is. record { rows = (inv.1.1.1.1 is).0; indexes = taken_all IsWantedIndex xs c.loop-place.place (omega (arith, over, e)) (inv.1.1.1.1 is).1 }
