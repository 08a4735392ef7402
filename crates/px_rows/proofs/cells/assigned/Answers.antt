use Rattle.std.proofs.Common.{◌≡◌, ◌≢◌, ◌∙◌, ap}
use Rattle.std.specs.Option.{option_copied}
use Rattle.px_rows.proofs.Lists.{assigned_here, assigned_before}
use Rattle.px_rows.proofs.cells.assigned.Goals.{then-assignment-column, else-assignment-column}
use Rattle.px_rows.proofs.cells.assigned.Goals as goal

pub loop-assignment-preserved : goal.loop-assignment-preserved
loop-assignment-preserved c = elim c.if-assignment-column.branch [
  | then-assignment-column w ↦
      (let q : c.assignment-item.result.column ≡ c.args.column = w.if-assignment-column.true in
      ap option_copied w.found-is ∙ assigned_here c.args.assignments.now c.loop-assignment.assignment-index c.assignment-item.result c.args.column c.loop-assignment-test.true c.assignment-item.is q)
  | else-assignment-column w ↦
      (let q : c.assignment-item.result.column ≢ c.args.column = w.if-assignment-column.false in
      ap option_copied w.found-is ∙ (c.loop-assignment.invariant ∙ assigned_before c.args.assignments.now c.loop-assignment.assignment-index c.assignment-item.result c.args.column c.loop-assignment-test.true c.assignment-item.is q))
]
