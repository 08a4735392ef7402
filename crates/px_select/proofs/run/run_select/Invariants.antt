use Rattle.std.proofs.Common.{◌≡◌}
use Rattle.px_planned.specs.Queries.{query_of}
use Rattle.px_scan.specs.Turns.{QuerySoFar}
use Rattle.px_select.proofs.run.run_select.Given as goal

-- what the seat did so far is to have opened what the run holds
abbrev pub invariant-steps : goal.invariant-steps
invariant-steps g l =
    record {
      so_far : QuerySoFar g.S.Steps.sound (query_of l.fn.planned) l.fn.scn (g.S.Steps.known l.fn.s) (g.S.Steps.known l.s) l.run.scan.state;
      planned : l.run.scan.query ≡ l.fn.planned;
      scn : l.run.scan.scn ≡ l.fn.scn;
    }
