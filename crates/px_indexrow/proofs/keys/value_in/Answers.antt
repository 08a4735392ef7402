use Rattle.std.proofs.Common.{◌∙◌, arith}
use Rattle.px_tables.specs.declared.table.KeyPlace.{KeyPlace}
use Rattle.px_values.specs.declared.order.Direction.TheVariants.{Ascending}
use Rattle.px_values.specs.declared.row.Value.TheVariants.{Null}
use Rattle.px_indexrow.proofs.KeysHeld.{found_value, found_none, value_any}
use Rattle.px_indexrow.proofs.keys.value_in.Goals as goal

pub returns-then-key-index : goal.returns-then-key-index
returns-then-key-index c =
    let d : KeyPlace = record { column = 0; direction = Ascending } in
    c.index-row-index.is ∙ found_value c.args.key.now c.args.row.now c.args.state.now c.args.column c.loop-index.index d c.index-row-index.result c.requires.count c.loop-index-test.true c.loop-index.invariant c.if-key-index.true

pub returns : goal.returns
returns c =
    let d : KeyPlace = record { column = 0; direction = Ascending } in
    let t = c.loop-index-test.false in
    c.index-state-column.is ∙ (value_any c.args.state.now c.args.column c.index-state-column.result Null c.requires.within ∙ found_none c.args.key.now c.args.row.now c.args.state.now c.args.column d (λ j h. c.loop-index.invariant j (omega arith)))
