use Rattle.std.proofs.Common.{◌≡◌, sym, ◌∙◌, ap}
use Rattle.px_trail.specs.Trail.{table_shape}
use Rattle.px_held.specs.HeldData.{changes_in}
use Rattle.px_held.proofs.Each.{first-some, none-distinct, none-held, some-each}
use Rattle.px_held.proofs.changes.held_with.Goals as goal

pub with_each-requires-clause-some : goal.with_each-requires-clause-some
with_each-requires-clause-some c =
    let same : c.into_vec-copies.result.items ≡ c.held.inside.changes.items = c.into_vec-copies.ensures ∙ (c.in-Ok.ensures ∙ c.as_slice.ensures.value) in
    some-each (table_shape c.args.table.now) c.into_vec-copies.result.items c.args.changes.items (λ none. c.held.invariant.some (sym same ∙ none))

pub returns-then-is_empty-clause-rows : goal.returns-then-is_empty-clause-rows
returns-then-is_empty-clause-rows c = none-held (table_shape c.args.table.now) (changes_in c.args.held.now) c.args.changes.items c.args.changes.len c.args.changes.ok.0 (sym c.is_empty.ensures ∙ c.if-is_empty.true) (ap changes_in c.in-None.is)

pub with_each-requires-in-None-clause-some : goal.with_each-requires-in-None-clause-some
with_each-requires-in-None-clause-some c = first-some (table_shape c.args.table.now) c.new-none.result.items c.args.changes.items c.args.changes.len c.args.changes.ok.0 (sym c.is_empty.ensures ∙ c.if-is_empty.false)

pub with_each-requires-in-None-clause-distinct : goal.with_each-requires-in-None-clause-distinct
with_each-requires-in-None-clause-distinct c = none-distinct c.new-none.result.items c.new-none.ensures.items
