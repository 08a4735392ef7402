use Rattle.px_batch.specs.Turns.{FitsBatch, IsBatchGoing}
use Rattle.px_bench_steps.proofs.stepping.step_all.Given as goal

-- the run is as the trail tells
abbrev pub invariant-steps : goal.invariant-steps
invariant-steps g l =
    record {
      fits : FitsBatch g.S.Steps.sound l.run.table l.run.changes l.run.state (g.S.Steps.known l.s);
      going : IsBatchGoing l.run.state;
    }
