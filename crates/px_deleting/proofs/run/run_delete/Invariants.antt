use Rattle.px_planned.specs.declared.planned.Planned.{Planned}
use Rattle.px_deleting.specs.Deleting.{CanBegin, IsDeleteNew, SoFar}
use Rattle.px_deleting.proofs.run.run_delete.Given as goal

-- what the seat did so far is what the run has done
abbrev pub invariant-steps : goal.invariant-steps
invariant-steps g l = (p : Planned) → IsDeleteNew p l.fn.run.state → CanBegin (g.S.Steps.known l.fn.s) p → SoFar g.S.Steps.sound p (g.S.Steps.known l.fn.s) (g.S.Steps.known l.s) l.run.state
