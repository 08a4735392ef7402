use Rattle.std.proofs.Common.{◌≡◌}
use Rattle.px_verify.specs.Turns.{SoFar}
use Rattle.px_verify.proofs.run.run_report.Given as goal

-- what the seat did so far is to have opened what the run holds
abbrev pub invariant-steps : goal.invariant-steps
invariant-steps g l =
    record {
      so_far : SoFar g.S.Steps.sound l.fn.table l.fn.index (g.S.Steps.known l.fn.s) (g.S.Steps.known l.s) l.run.state;
      table : l.run.table ≡ l.fn.table;
      index : l.run.index ≡ l.fn.index;
    }
