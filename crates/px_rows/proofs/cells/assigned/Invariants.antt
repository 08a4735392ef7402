use Rattle.std.proofs.Common.{◌≡◌, take}
use Rattle.std.specs.Option.{option_copied}
use Rattle.px_rows.specs.Spelled.{assigned_to}
use Rattle.px_rows.proofs.cells.assigned.Given as goal

abbrev pub invariant-loop-assignment : goal.invariant-loop-assignment
invariant-loop-assignment l = option_copied l.found ≡ assigned_to (take l.assignment-index l.assignments) l.column
