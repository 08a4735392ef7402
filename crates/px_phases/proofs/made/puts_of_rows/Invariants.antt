use Rattle.std.proofs.Common.{take}
use Rattle.px_phases.specs.Phases.{ArePuts}
use Rattle.px_phases.proofs.made.puts_of_rows.Given as goal

abbrev pub invariant-loop-change : goal.invariant-loop-change
invariant-loop-change l = ArePuts l.table l.stamp (take l.change-index l.changes) l.kept
