use Rattle.std.proofs.Common.{◌≡◌}
use Rattle.px_ast.specs.Rule.{Got}
use Rattle.px_definitions.specs.declared.columns.Item.TheVariants as items
use Rattle.px_definitions.specs.inner.Columns.{item}
use Rattle.px_definitions.proofs.ColumnTurns.{goes_on_column, ends_with_constraint, ends_with_nothing}
use Rattle.px_definitions.proofs.columns.columns.Goals as goal

pub returns-in-Constraint : goal.returns-in-Constraint
returns-in-Constraint c =
    let read : item c.loop-turn.tokens ≡ Got (items.Constraint c.in-Constraint.constraint) c.next_item.new.tokens = rw c.in-Constraint.is at c.in_ok-column.ensures in
    rw c.of.ensures (ends_with_constraint c.loop-turn.found.items c.in-Constraint.constraint c.loop-turn.tokens c.next_item.new.tokens _ _ _ c.loop-turn-test.true read c.loop-turn.invariant)

pub returns-in-Nothing : goal.returns-in-Nothing
returns-in-Nothing c =
    let read : item c.loop-turn.tokens ≡ Got items.Nothing c.next_item.new.tokens = rw c.in-Nothing.is at c.in_ok-column.ensures in
    rw c.of-in-Nothing.ensures (ends_with_nothing c.loop-turn.found.items c.loop-turn.tokens c.next_item.new.tokens _ _ _ c.loop-turn-test.true read c.loop-turn.invariant)

pub loop-turn-preserved : goal.loop-turn-preserved
loop-turn-preserved c =
    let read : item c.loop-turn.tokens ≡ Got (items.Column c.in-Column.column) c.next_item.new.tokens = rw c.in-Column.is at c.in_ok-column.ensures in
    let more = goes_on_column c.loop-turn.found.items c.in-Column.column c.loop-turn.tokens c.next_item.new.tokens _ _ _ c.loop-turn-test.true read c.loop-turn.invariant in
    rw c.in_ok-push-in-Column.ensures.items more
