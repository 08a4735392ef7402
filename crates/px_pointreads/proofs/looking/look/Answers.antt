use Rattle.std.proofs.Common.{◌≡◌, ℕ, Option, List, ap, length, sym, subst, ◌∙◌}
use Rattle.px_calls.specs.Looks.{Shows, ShowsRows}
use Rattle.px_calls.specs.declared.query.By.TheVariants.{Index as ByIndex}
use Rattle.px_values.specs.declared.name.IndexId.{IndexId}
use Rattle.px_calls.specs.declared.query.By.{By}
use Rattle.px_reading.proofs.Looked.{looked_on}
use Rattle.px_reading.proofs.Looks.{ok_both, ok_map}
use Rattle.px_reading.specs.Versions.{AreAllGiven, AreOfVersions}
use Rattle.px_pointreads.specs.Counted.{HasCountedBy}
use Rattle.px_pointreads.specs.Points.{IsPartAt}
use Rattle.px_pointreads.proofs.Asked.{above_keys, active_at, found_in, index_is, no_index, not_looked, there_is}
use Rattle.px_pointreads.proofs.looking.look.Goals as goal

pub returns-in-Table-clause-keys : goal.returns-in-Table-clause-keys
returns-in-Table-clause-keys g c = ok_map _ _ (λ n h. subst (λ (o : Option (List ℕ)). Shows c.args.p.now c.args.path.now o n.found n.next) c.bytes_if-past.ensures (h c.args.p.now c.args.path.now c.in-Table.is (sym c.as_slice-low.ensures) (sym c.bytes_if-high.ensures))) c.look_rows.result c.look_rows.ensures.keys

pub returns-in-Some-clause-keys : goal.returns-in-Some-clause-keys
returns-in-Some-clause-keys g c = ok_map _ _ (λ n h.
    (let f = found_in c.args.p.now c.in-Index.index c.args.group.now.indexes.items c.deref.result.now c.in-Some.place c.deref.ensures.value c.in-Some.ensures.within c.in-Some.ensures.part in
    let z = there_is c.args.group.now.indexes.items c.in-Some.place f.within in
    let part = f.part z.0 z.1 in
    let by : c.args.path.now.by ≡ ByIndex z.0.index.id = c.in-Index.is ∙ ap ByIndex (sym part.id) in
    subst (λ (o : Option (List ℕ)). Shows c.args.p.now c.args.path.now o n.found n.next) c.bytes_if-past.ensures (h z.0 z.1 c.args.p.now c.requires.at.of.found part.at c.args.path.now by (sym c.as_slice-low.ensures) (sym c.bytes_if-high.ensures)))) c.look_keys.result c.look_keys.ensures.keys

pub returns-in-Some-clause-rows : goal.returns-in-Some-clause-rows
returns-in-Some-clause-rows g c = ok_map _ _ (λ n h b index es v hs tallied shown.
    (let f = found_in c.args.p.now c.in-Index.index c.args.group.now.indexes.items c.deref.result.now c.in-Some.place c.deref.ensures.value c.in-Some.ensures.within c.in-Some.ensures.part in
    let z = there_is c.args.group.now.indexes.items c.in-Some.place f.within in
    let part = f.part z.0 z.1 in
    let by : c.args.path.now.by ≡ ByIndex z.0.index.id = c.in-Index.is ∙ ap ByIndex (sym part.id) in
    subst (λ (o : Option (List ℕ)). ShowsRows b es c.args.p.now c.args.path.now o n.found n.next) c.bytes_if-past.ensures
    (h z.0 z.1 b index es v hs shown (active_at c.args.group.now c.args.p.now c.requires.at c.in-Index.index z.0 part c.args.path.now c.in-Index.is c.requires.path) c.args.p.now c.requires.at.of part.at (sym c.reach-in-Some.ensures)
    (above_keys c.args.group.now c.args.p.now c.requires.at c.in-Index.index z.0 part b es hs tallied c.reach-in-Some.result c.reach-in-Some.ensures) c.args.path.now by (sym c.as_slice-low.ensures) (sym c.bytes_if-high.ensures)))) c.look_keys.result c.look_keys.ensures.rows

pub returns-in-Some-clause-versions : goal.returns-in-Some-clause-versions
returns-in-Some-clause-versions g c = ok_both _ _ _ (λ n h w i by.
    (let f = found_in c.args.p.now c.in-Index.index c.args.group.now.indexes.items c.deref.result.now c.in-Some.place c.deref.ensures.value c.in-Some.ensures.within c.in-Some.ensures.part in
    let z = there_is c.args.group.now.indexes.items c.in-Some.place f.within in
    let same : c.in-Index.index ≡ i = index_is c.in-Index.index i (sym c.in-Index.is ∙ by) in
    let whole = subst (λ (o : Option (List ℕ)). AreAllGiven z.0 c.reach-in-Some.result c.args.path.now o n.found n.next) c.bytes_if-past.ensures (w z.0 z.1 c.args.path.now (sym c.as_slice-low.ensures) (sym c.bytes_if-high.ensures)) in
    record {
      place = c.in-Some.place;
      index = z.0;
      at = z.1;
      part = subst (λ (j : IndexId). IsPartAt c.args.p.now j z.0) same (f.part z.0 z.1);
      versions = subst (λ (s : ℕ). AreOfVersions z.0 s n.found) c.reach-in-Some.ensures (h z.0 z.1);
      whole = subst (λ (s : ℕ). AreAllGiven z.0 s c.args.path.now c.args.after.now n.found n.next) c.reach-in-Some.ensures whole;
    })) c.look_keys.result c.look_keys.ensures.versions c.look_keys.ensures.whole

pub returns-in-Table-clause-versions : goal.returns-in-Table-clause-versions
returns-in-Table-clause-versions g c = ok_map _ _ (λ n h i by. absurd (no_index i (sym c.in-Table.is ∙ by))) c.look_rows.result c.look_rows.ensures.keys

pub returns-in-Table-clause-no_row : goal.returns-in-Table-clause-no_row
returns-in-Table-clause-no_row g c = λ i by. absurd (no_index i (sym c.in-Table.is ∙ by))

pub returns-in-Some-clause-no_row : goal.returns-in-Some-clause-no_row
returns-in-Some-clause-no_row g c = λ i by. c.look_keys.ensures.no_row

pub returns-in-None-clause-looked : goal.returns-in-None-clause-looked
returns-in-None-clause-looked g c = not_looked c.args.group.now

pub returns-in-Some-clause-counted : goal.returns-in-Some-clause-counted
returns-in-Some-clause-counted g c = ok_map _ _ (λ n h.
    (let f = found_in c.args.p.now c.in-Index.index c.args.group.now.indexes.items c.deref.result.now c.in-Some.place c.deref.ensures.value c.in-Some.ensures.within c.in-Some.ensures.part in
    let z = there_is c.args.group.now.indexes.items c.in-Some.place f.within in
    let then = looked_on c.args.group.now.indexes.items c.look_keys.new.group.indexes.items c.look_keys.ensures.looked.indexes c.in-Some.place z.0 z.1 in
    subst (λ (by : By). HasCountedBy c.args.group.now c.look_keys.new.group by (length n.found)) (sym c.in-Index.is)
    (record {
      place = c.in-Some.place;
      before = z.0;
      at = z.1;
      id = (f.part z.0 z.1).id;
      after = then.0;
      at_after = then.1.0;
      counted = h z.0 then.0 z.1 then.1.0;
    }))) c.look_keys.result c.look_keys.ensures.counted
