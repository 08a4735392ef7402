use Rattle.std.proofs.Common.{◌≡◌, ◌++◌, sym, ◌∙◌, ap}
use Rattle.px_held.specs.Merged.{null_outside}
use Rattle.px_held.proofs.Nulls.{nulls-more}
use Rattle.px_held.proofs.merging.nulls.Goals as goal

pub loop-column-preserved : goal.loop-column-preserved
loop-column-preserved c =
    let made : c.add_null.new.list.items ≡ c.loop-column.list.items ++ null_outside c.args.table.now.key c.loop-column.column = rw c.as_slice-in-loop-column.ensures at c.in_ok-add_null.ensures in
    made ∙ (ap (λ l. l ++ null_outside c.args.table.now.key c.loop-column.column) c.loop-column.invariant ∙ sym (nulls-more c.args.table.now.key c.loop-column.column))
