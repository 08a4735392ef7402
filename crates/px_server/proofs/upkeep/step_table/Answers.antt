use Rattle.std.proofs.Common.{◌≡◌, Result, Ok, Err, OnOk, Some, slice_get, refl, inl, inr}
use Rattle.px_batching.proofs.Places.{all_at}
use Rattle.px_server.specs.Upkeep.{IsIndexToForget, IsOrderedIndex}
use Rattle.px_server.proofs.Orders.{all_put, got_there, ordered_on}
use Rattle.px_server.proofs.upkeep.step_table.Goals as goal

on_ok : {T E : Type 0} (r : Result T E) (P Q : Type 0) → (P → Q) → OnOk r P → OnOk r Q
on_ok (Ok x) P Q f p = f p
on_ok (Err e) P Q f p = tt

pub returns-in-Rows-clause-ok : goal.returns-in-Rows-clause-ok
returns-in-Rows-clause-ok g c = on_ok c.step_region.result _ _ (λ stepped. inl (record { rows = record { same = refl; steps = c.step_region.ensures.steps }; stepped = stepped })) c.step_region.ensures.ok

pub returns-in-Rows-clause-ordered : goal.returns-in-Rows-clause-ordered
returns-in-Rows-clause-ordered g c = on_ok c.step_region.result _ _ (λ same was. record { rows = ordered_on _ _ same was.rows; indexes = was.indexes }) c.step_region.ensures.ordered

pub returns-in-Rows-clause-to_forget : goal.returns-in-Rows-clause-to_forget
returns-in-Rows-clause-to_forget g c = on_ok c.step_region.result _ _ (λ to lookback was. record { risen = was.risen; rows = to was.rows; indexes = was.indexes }) c.step_region.ensures.to_forget

pub returns-in-Rows-clause-refused : goal.returns-in-Rows-clause-refused
returns-in-Rows-clause-refused g c = λ is. inl (record { rows = record { same = refl; steps = c.step_region.ensures.steps }; stepped = inl (c.step_region.ensures.refused is) })

pub returns-in-Index-clause-ok : goal.returns-in-Index-clause-ok
returns-in-Index-clause-ok g c =
    let y = c.index_mut.result.now in
    let at : slice_get c.args.group.now.indexes.items c.in-Index.place ≡ Some y = got_there c.args.group.now.indexes.items c.in-Index.place y (rw c.in-Index.is at c.requires) c.index_mut.ensures.value in
    on_ok c.step_region-in-Index.result _ _ (λ stepped. inr (record { index = record { place = c.in-Index.place; index = y; is = at; region = c.step_region-in-Index.new.region; same = refl; indexes = refl; steps = c.step_region-in-Index.ensures.steps }; stepped = stepped })) c.step_region-in-Index.ensures.ok

pub returns-in-Index-clause-ordered : goal.returns-in-Index-clause-ordered
returns-in-Index-clause-ordered g c =
    let y = c.index_mut.result.now in
    let at : slice_get c.args.group.now.indexes.items c.in-Index.place ≡ Some y = got_there c.args.group.now.indexes.items c.in-Index.place y (rw c.in-Index.is at c.requires) c.index_mut.ensures.value in
    on_ok c.step_region-in-Index.result _ _ (λ same was. record { rows = was.rows; indexes = all_put IsOrderedIndex c.args.group.now.indexes.items c.in-Index.place _ was.indexes (ordered_on y.region c.step_region-in-Index.new.region same (all_at IsOrderedIndex c.args.group.now.indexes.items c.in-Index.place y at was.indexes)) }) c.step_region-in-Index.ensures.ordered

pub returns-in-Index-clause-to_forget : goal.returns-in-Index-clause-to_forget
returns-in-Index-clause-to_forget g c =
    let y = c.index_mut.result.now in
    let h = c.args.group.now.horizon in
    let at : slice_get c.args.group.now.indexes.items c.in-Index.place ≡ Some y = got_there c.args.group.now.indexes.items c.in-Index.place y (rw c.in-Index.is at c.requires) c.index_mut.ensures.value in
    on_ok c.step_region-in-Index.result _ _ (λ to lookback was. record { risen = was.risen; rows = was.rows; indexes = all_put (IsIndexToForget h) c.args.group.now.indexes.items c.in-Index.place _ was.indexes (to (all_at (IsIndexToForget h) c.args.group.now.indexes.items c.in-Index.place y at was.indexes)) }) c.step_region-in-Index.ensures.to_forget

pub returns-in-Index-clause-failed : goal.returns-in-Index-clause-failed
returns-in-Index-clause-failed g c =
    let y = c.index_mut.result.now in
    let at : slice_get c.args.group.now.indexes.items c.in-Index.place ≡ Some y = got_there c.args.group.now.indexes.items c.in-Index.place y (rw c.in-Index.is at c.requires) c.index_mut.ensures.value in
    λ is. (inr (record { place = c.in-Index.place; index = y; is = at; region = c.step_region-in-Index.new.region; same = refl; indexes = refl; steps = c.step_region-in-Index.ensures.steps }), c.step_region-in-Index.ensures.failed is)

pub returns-in-Index-clause-refused : goal.returns-in-Index-clause-refused
returns-in-Index-clause-refused g c =
    let y = c.index_mut.result.now in
    let at : slice_get c.args.group.now.indexes.items c.in-Index.place ≡ Some y = got_there c.args.group.now.indexes.items c.in-Index.place y (rw c.in-Index.is at c.requires) c.index_mut.ensures.value in
    λ is. inr (record { index = record { place = c.in-Index.place; index = y; is = at; region = c.step_region-in-Index.new.region; same = refl; indexes = refl; steps = c.step_region-in-Index.ensures.steps }; stepped = inl (c.step_region-in-Index.ensures.refused is) })
