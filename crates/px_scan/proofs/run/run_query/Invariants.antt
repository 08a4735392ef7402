use Rattle.std.proofs.Common.{◌≡◌, List}
use Rattle.px_scan.specs.declared.machine.QueryState.{QueryState}
use Rattle.px_scan.specs.Chains.{QueryStep}
use Rattle.px_scan.specs.Courses.{IsOnCourse}
use Rattle.px_scan.specs.Turns.{IsQueryNew, QuerySoFar}
use Rattle.px_scan.proofs.run.run_query.Given as goal

-- what the seat did so far is to have opened what the run holds; and the steps so far, from a state that has made none
abbrev pub invariant-steps : goal.invariant-steps
invariant-steps g l =
    record {
      so_far : QuerySoFar g.S.Steps.sound (g.Q.Asks.asked l.fn.query) l.fn.scn (g.S.Steps.known l.fn.s) (g.S.Steps.known l.s) l.run.state;
      query : l.run.query ≡ l.fn.query;
      scn : l.run.scn ≡ l.fn.scn;
      course : (first : QueryState) × IsQueryNew first × ((os : List QueryStep) × IsOnCourse g.S.Steps (g.Q.Asks.asked l.fn.query) l.fn.scn l.fn.s first l.run.state l.s os);
    }
