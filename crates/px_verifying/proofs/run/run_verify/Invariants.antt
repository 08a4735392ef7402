use Rattle.std.proofs.Common.{◌≡◌}
use Rattle.px_verifying.specs.Turns.{SoFar}
use Rattle.px_verifying.proofs.run.run_verify.Given as goal

-- what the seat did so far is that of the run
abbrev pub invariant-steps : goal.invariant-steps
invariant-steps g l =
    record {
      so_far : SoFar g.S.Steps.sound l.fn.table l.fn.index l.fn.kind (g.S.Steps.known l.fn.s) (g.S.Steps.known l.s) l.run.done l.run.state;
      table : l.run.table ≡ l.fn.table;
      index : l.run.index ≡ l.fn.index;
      kind : l.run.kind ≡ l.fn.kind;
    }
