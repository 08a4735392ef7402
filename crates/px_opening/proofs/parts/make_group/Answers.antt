use Rattle.std.proofs.Common.{◌∙◌, map, sym, rules}
use Rattle.std.proofs.lemmas.List.Elements.{All-same}
use Rattle.px_opening.specs.Opened.{IsDataOf, region_in}
use Rattle.px_opening.proofs.Building.{group_is, moved_rows}
use Rattle.px_opening.proofs.parts.make_group.Goals as goal

pub returns-in-Ok-copied-clause-moved : goal.returns-in-Ok-copied-clause-moved
returns-in-Ok-copied-clause-moved c =
    moved_rows c.args.regions.now.items c.in_ok-rows.rows c.take_rows.new.regions.items (map region_in c.in-Ok.parts.items) c.take_indexes.new.regions.items c.in_ok-rows.ensures.moved c.in-Ok.ensures.moved

pub returns-in-Ok-copied-clause-group : goal.returns-in-Ok-copied-clause-group
returns-in-Ok-copied-clause-group c = λ f all.
    let moved = moved_rows c.args.regions.now.items c.in_ok-rows.rows c.take_rows.new.regions.items (map region_in c.in-Ok.parts.items) c.take_indexes.new.regions.items c.in_ok-rows.ensures.moved c.in-Ok.ensures.moved in
    let h = c.in-Some.ensures f (All-same (IsDataOf f) c.deref.result.now c.args.regions.now.items c.deref.ensures.value all) in
    group_is f c.args.indexes.now c.args.table.now _ c.args.regions.now.items c.take_indexes.new.regions.items all moved (sym c.in-Ok-copied.ensures) (c.in_ok-rows.ensures.number ∙ c.rows_number-number.ensures) c.in_ok-rows.ensures.rows c.in-Ok.ensures.indexes c.in-Ok.ensures.parts
    h.0 h.1 (search rules) (search rules)
