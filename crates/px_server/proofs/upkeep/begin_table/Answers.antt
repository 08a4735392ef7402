use Rattle.std.proofs.Common.{◌≡◌, Some, slice_get, refl, inl, inr}
use Rattle.px_batching.proofs.Places.{all_at}
use Rattle.px_server.specs.Upkeep.{IsIndexToForget, IsOrderedIndex}
use Rattle.px_server.proofs.Orders.{all_put, got_there}
use Rattle.px_server.proofs.upkeep.begin_table.Goals as goal

pub returns-in-Rows-clause-steps : goal.returns-in-Rows-clause-steps
returns-in-Rows-clause-steps g c = λ disk. inl (record { rows = record { same = refl; steps = c.begin_region.ensures.steps disk }; stepped = inl (c.begin_region.ensures.stays disk) })

pub returns-in-Rows-clause-ordered : goal.returns-in-Rows-clause-ordered
returns-in-Rows-clause-ordered g c = λ was. record { rows = c.begin_region.ensures.ordered was.rows; indexes = was.indexes }

pub returns-in-Rows-clause-to_forget : goal.returns-in-Rows-clause-to_forget
returns-in-Rows-clause-to_forget g c = λ lookback was. record { risen = was.risen; rows = c.begin_region.ensures.to_forget was.rows; indexes = was.indexes }

pub returns-in-Index-clause-steps : goal.returns-in-Index-clause-steps
returns-in-Index-clause-steps g c =
    let y = c.index_mut.result.now in
    let b = c.begin_region-in-Index in
    let at : slice_get c.args.group.now.indexes.items c.in-Index.place ≡ Some y = got_there c.args.group.now.indexes.items c.in-Index.place y (rw c.in-Index.is at c.requires) c.index_mut.ensures.value in
    λ disk. inr (record { index = record { place = c.in-Index.place; index = y; is = at; region = b.new.region; same = refl; indexes = refl; steps = b.ensures.steps disk }; stepped = inl (b.ensures.stays disk) })

pub returns-in-Index-clause-ordered : goal.returns-in-Index-clause-ordered
returns-in-Index-clause-ordered g c =
    let y = c.index_mut.result.now in
    let at : slice_get c.args.group.now.indexes.items c.in-Index.place ≡ Some y = got_there c.args.group.now.indexes.items c.in-Index.place y (rw c.in-Index.is at c.requires) c.index_mut.ensures.value in
    λ was. record { rows = was.rows; indexes = all_put IsOrderedIndex c.args.group.now.indexes.items c.in-Index.place _ was.indexes (c.begin_region-in-Index.ensures.ordered (all_at IsOrderedIndex c.args.group.now.indexes.items c.in-Index.place y at was.indexes)) }

pub returns-in-Index-clause-to_forget : goal.returns-in-Index-clause-to_forget
returns-in-Index-clause-to_forget g c =
    let y = c.index_mut.result.now in
    let h = c.args.group.now.horizon in
    let at : slice_get c.args.group.now.indexes.items c.in-Index.place ≡ Some y = got_there c.args.group.now.indexes.items c.in-Index.place y (rw c.in-Index.is at c.requires) c.index_mut.ensures.value in
    λ lookback was. record { risen = was.risen; rows = was.rows; indexes = all_put (IsIndexToForget h) c.args.group.now.indexes.items c.in-Index.place _ was.indexes (c.begin_region-in-Index.ensures.to_forget (all_at (IsIndexToForget h) c.args.group.now.indexes.items c.in-Index.place y at was.indexes)) }
