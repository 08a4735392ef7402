use Rattle.std.proofs.Common.{refl, ap, ◌∙◌, max}
use Rattle.px_indexrow.specs.declared.doubt.Repair.TheVariants.{Leave}
use Rattle.px_reading.proofs.Dues.{by_above, by_below, by_left, count_there, part_is, pending_by, row_there, short_there}
use Rattle.px_reading.proofs.Looks.{ok_map}
use Rattle.px_reading.proofs.due.due_of.Goals as goal

pub returns-then-is_left-clause-due : goal.returns-then-is_left-clause-due
returns-then-is_left-clause-due c = λ x at b index es v hs tallied shown told stands.
    by_left b index es c.args.group.now v hs tallied shown told c.args.place x at c.args.doubted.now.row.items c.args.doubted.now.cells.items c.requires.cells c.args.key.now c.args.stamp Leave refl
    (pending_by c.args.group.now c.args.stamp c.args.doubted.now.row.items c.deref-2.result.now c.deref.result.now _ _ c.deref-2.ensures.value c.deref.ensures.value c.is_left.ensures c.if-is_left.true)

pub due_above-requires-clause-row : goal.due_above-requires-clause-row
due_above-requires-clause-row c = row_there c.args.group.now c.requires.right c.args.place c.requires.there c.args.key.now c.requires.key c.args.doubted.now.row.items c.requires.row c.args.doubted.now.cells.items c.requires.cells

pub due_above-requires-clause-short : goal.due_above-requires-clause-short
due_above-requires-clause-short c = short_there c.args.group.now c.requires.right c.args.place c.requires.there c.args.key.now c.requires.key c.args.doubted.now.row.items

pub returns-then-stamp-horizon-clause-due : goal.returns-then-stamp-horizon-clause-due
returns-then-stamp-horizon-clause-due c = ok_map _ _ (λ repair h x at b index es v hs tallied shown told stands.
    by_above b index es c.args.group.now v hs tallied shown told c.args.place x at c.args.doubted.now.row.items c.args.doubted.now.cells.items c.requires.cells c.args.key.now c.args.stamp repair
    c.index-part.result.now (part_is c.args.group.now c.args.place _ c.index-part.result.now c.index-part.ensures x at) c.greater-horizon.result c.greater-horizon.ensures
    (pending_by c.args.group.now c.args.stamp c.args.doubted.now.row.items c.deref-2.result.now c.deref.result.now _ _ c.deref-2.ensures.value c.deref.ensures.value c.is_left.ensures c.if-is_left.false)
    c.if-stamp-horizon.true h) c.due_above.result c.due_above.ensures

pub due_below-requires-clause-row : goal.due_below-requires-clause-row
due_below-requires-clause-row c = row_there c.args.group.now c.requires.right c.args.place c.requires.there c.args.key.now c.requires.key c.args.doubted.now.row.items c.requires.row c.args.doubted.now.cells.items c.requires.cells

pub due_below-requires-clause-short : goal.due_below-requires-clause-short
due_below-requires-clause-short c = short_there c.args.group.now c.requires.right c.args.place c.requires.there c.args.key.now c.requires.key c.args.doubted.now.row.items

pub due_below-requires-clause-seen : goal.due_below-requires-clause-seen
due_below-requires-clause-seen c = count_there c.args.group.now c.args.place _ c.index-part.result.now c.index-part.ensures c.requires.there c.args.key.now c.args.stamp c.args.seen.now c.requires.seen

pub returns-clause-due : goal.returns-clause-due
returns-clause-due c = ok_map _ _ (λ repair h x at b index es v hs tallied shown told stands.
    by_below b index es c.args.group.now v hs tallied shown told c.args.place x at c.args.doubted.now.row.items c.args.doubted.now.cells.items c.requires.cells c.args.key.now c.args.stamp repair
    c.index-part.result.now (part_is c.args.group.now c.args.place _ c.index-part.result.now c.index-part.ensures x at) c.greater-horizon.result c.greater-horizon.ensures
    (pending_by c.args.group.now c.args.stamp c.args.doubted.now.row.items c.deref-2.result.now c.deref.result.now _ _ c.deref-2.ensures.value c.deref.ensures.value c.is_left.ensures c.if-is_left.false)
    (c.requires.row x at) c.args.seen.now (c.requires.seen x at) stands c.if-stamp-horizon.false c.greater.result (c.greater.ensures ∙ ap (max c.index-part.result.now.index.birth) c.horizon.ensures) h) c.due_below.result c.due_below.ensures.due
