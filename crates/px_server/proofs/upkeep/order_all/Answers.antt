use Rattle.std.proofs.Common.{◌<◌, ◌∙◌, length, refl, sym, subst, arith}
use Rattle.px_group.specs.declared.group.Group.{Group}
use Rattle.px_server.specs.Upkeep as upkeep
use Rattle.px_server.specs.Upkeep.{IsOrderedTable, IsWantedTable, Settles}
use Rattle.px_server.proofs.Orders.{set_length, set_next, taken_all}
use Rattle.px_server.proofs.upkeep.order_all.Goals as goal

pub loop-place-init : goal.loop-place-init
loop-place-init g c = (λ disk. upkeep.all_still, (refl, (tt, λ is. tt)))

pub loop-place-preserved : goal.loop-place-preserved
loop-place-preserved g c =
    let i = c.loop-place.place in
    let gs = c.loop-place.groups in
    let inv = c.loop-place.invariant in
    let g0 = c.index-groups-place.result in
    let inside : i < length gs = (let t = c.loop-place-test.true in let e = inv.1.0 in omega (arith, t, e)) in (
      λ disk. upkeep.next gs i g0 c.order_table.new.group (inv.0 disk) inside (sym c.index-groups-place.is) (subst (λ (x : Group). Settles g.D.Disk disk x c.order_table.new.group) (sym c.index-groups-place.is) (c.order_table.ensures.settles disk)),
      (set_length gs i _ ∙ inv.1.0, (set_next IsOrderedTable gs i _ inside inv.1.1.0 c.order_table.ensures.ordered, λ is. set_next IsWantedTable gs i _ inside (inv.1.1.1 is) (c.order_table.ensures.wanted is))),
    )

pub returns-clause-ordered : goal.returns-clause-ordered
returns-clause-ordered g c =
    let inv = c.loop-place.invariant in
    let over = c.loop-place-test.false in
    let e = inv.1.0 in
    taken_all IsOrderedTable c.loop-place.groups c.loop-place.place (omega (arith, over, e)) inv.1.1.0

pub returns-clause-wanted : goal.returns-clause-wanted
returns-clause-wanted g c =
    let inv = c.loop-place.invariant in
    let over = c.loop-place-test.false in
    let e = inv.1.0 in
    λ is. taken_all IsWantedTable c.loop-place.groups c.loop-place.place (omega (arith, over, e)) (inv.1.1.1 is)
