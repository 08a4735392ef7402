use Rattle.std.proofs.Common.{ℕ, List, sym, subst}
use Rattle.px_group.specs.Group.{IsRightPart}
use Rattle.px_indexed.proofs.Rows.{batch_sound}
use Rattle.px_reading.specs.Doubts.{IsKeyIn}
use Rattle.px_reading.proofs.Flight.{flight_pending, in_flight}
use Rattle.px_reading.proofs.Looked.{part_at}
use Rattle.px_reading.proofs.Looks.{ok_map}
use Rattle.px_shown.specs.Told.{IsHolder}
use Rattle.px_values.specs.declared.name.IndexId.{IndexId}
use Rattle.px_pointreads.proofs.Asked.{above_rows, key_at, found_in, not_looked, pending_leave, there_is}
use Rattle.px_pointreads.proofs.Dues.{due_of_doubt}
use Rattle.px_pointreads.proofs.consulting.consult.Goals as goal

pub consult-requires-clause-key : goal.consult-requires-clause-key
consult-requires-clause-key g c = λ x at. subst (IsKeyIn c.args.group.now x) (sym c.as_slice.ensures) (key_at c.args.group.now c.args.p.now c.requires.at c.args.d.now.index x ((found_in c.args.p.now c.args.d.now.index c.args.group.now.indexes.items c.deref.result.now c.in-Some.place c.deref.ensures.value c.in-Some.ensures.within c.in-Some.ensures.part).part x at) c.args.d.now (λ i. c.args.d.now.index) c.requires.doubt)

pub returns-in-Some-clause-row : goal.returns-in-Some-clause-row
returns-in-Some-clause-row g c = ok_map _ _ (λ o h b index es v hs tallied shown.
    (let f = found_in c.args.p.now c.args.d.now.index c.args.group.now.indexes.items c.deref.result.now c.in-Some.place c.deref.ensures.value c.in-Some.ensures.within c.in-Some.ensures.part in
    let z = there_is c.args.group.now.indexes.items c.in-Some.place f.within in
    let part = f.part z.0 z.1 in
    let holder = h z.0 z.1 b index es v hs shown c.args.p.now c.requires.at.of part.at (sym c.reach.ensures) (above_rows c.args.group.now c.args.p.now c.requires.at c.args.d.now.index z.0 part b es hs tallied c.reach.result c.reach.ensures) in
    subst (λ (i : IndexId). IsHolder b es c.args.p.now i c.args.d.now.key o.row) part.id (subst (λ (k : List ℕ). IsHolder b es c.args.p.now z.0.index.id k o.row) c.as_slice.ensures holder))) c.consult.result c.consult.ensures.row

pub returns-in-Some-clause-leave : goal.returns-in-Some-clause-leave
returns-in-Some-clause-leave g c = ok_map _ _ (λ o h b es hs legal tallied.
    (let f = found_in c.args.p.now c.args.d.now.index c.args.group.now.indexes.items c.deref.result.now c.in-Some.place c.deref.ensures.value c.in-Some.ensures.within c.in-Some.ensures.part in
    let z = there_is c.args.group.now.indexes.items c.in-Some.place f.within in
    let part = f.part z.0 z.1 in
    let key = key_at c.args.group.now c.args.p.now c.requires.at c.args.d.now.index z.0 part c.args.d.now (λ i. c.args.d.now.index) c.requires.doubt in
    let right = part_at (IsRightPart c.args.group.now.table) c.args.group.now.indexes.items c.requires.right.parts c.in-Some.place z.0 z.1 in
    pending_leave c.args.group.now c.in-Some.place z.0 c.as_slice.result.now c.args.d.now o.verdict c.as_slice.ensures (h z.0 z.1)
    (in_flight b es c.args.group.now hs tallied c.in-Some.place z.0 z.1 right.table c.args.d.now (sym part.id) key)
    (flight_pending b es c.args.group.now hs tallied c.in-Some.place z.0 z.1 right.table c.args.d.now (sym part.id) key (λ y is ended. (batch_sound b es c.args.group.now.table.id.0 c.args.d.now.stamp y legal is).ended ended)))) c.consult.result c.consult.ensures.leave

pub returns-in-Some-clause-due : goal.returns-in-Some-clause-due
returns-in-Some-clause-due g c = ok_map _ _ (λ o h.
    (let f = found_in c.args.p.now c.args.d.now.index c.args.group.now.indexes.items c.deref.result.now c.in-Some.place c.deref.ensures.value c.in-Some.ensures.within c.in-Some.ensures.part in
    let z = there_is c.args.group.now.indexes.items c.in-Some.place f.within in
    due_of_doubt c.args.group.now c.args.p.now c.args.d.now c.in-Some.place z.0 z.1 (f.part z.0 z.1) o.verdict c.as_slice.result.now c.as_slice.ensures (h z.0 z.1))) c.consult.result c.consult.ensures.due

pub returns-in-None-clause-looked : goal.returns-in-None-clause-looked
returns-in-None-clause-looked g c = not_looked c.args.group.now
