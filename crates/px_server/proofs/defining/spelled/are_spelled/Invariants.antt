use Rattle.std.proofs.Common.{take}
use Rattle.std.specs.List.{AllByRecursion}
use Rattle.px_schema.specs.Parts.{name_piece}
use Rattle.px_server.proofs.defining.spelled.are_spelled.Given as goal

abbrev pub invariant-loop-column : goal.invariant-loop-column
invariant-loop-column l = AllByRecursion (λ c. name_piece.right c.name) (take l.column-index l.columns)
