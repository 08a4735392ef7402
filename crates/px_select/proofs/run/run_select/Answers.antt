use Rattle.std.proofs.Common.{◌∙◌}
use Rattle.px_planned.specs.Queries.{query_of}
use Rattle.px_scan.proofs.Turning.{starts}
use Rattle.px_select.proofs.Turning.{ends-as, steps-on, waits-on}
use Rattle.px_select.proofs.run.run_select.Goals as goal

pub steps-init : goal.steps-init
steps-init g c = record {
  so_far = starts g.S.Steps.sound (query_of c.args.planned) c.args.scn _ (g.S.Steps.known c.args.s.now) c.new-run.ensures.state c.requires.bound c.requires.scn;
  planned = c.new-run.ensures.planned;
  scn = c.new-run.ensures.scn;
}

pub steps-preserved-in-Stepped : goal.steps-preserved-in-Stepped
steps-preserved-in-Stepped g c = record {
  so_far = steps-on g.S.Steps.sound _ _ _ _ _ _ _ c.steps.invariant.so_far (rw (c.steps.invariant.planned, c.steps.invariant.scn) at c.in-Stepped.ensures.turns);
  planned = c.step.ensures.planned ∙ c.steps.invariant.planned;
  scn = c.step.ensures.scn ∙ c.steps.invariant.scn;
}

pub steps-preserved : goal.steps-preserved
steps-preserved g c = record {
  so_far = waits-on g.S.Steps.sound _ _ _ _ _ _ _ _ c.steps.invariant.so_far (rw (c.steps.invariant.planned, c.steps.invariant.scn) at c.in-Waiting.ensures.turns);
  planned = c.step.ensures.planned ∙ c.steps.invariant.planned;
  scn = c.step.ensures.scn ∙ c.steps.invariant.scn;
}

pub returns-in-Over : goal.returns-in-Over
returns-in-Over g c = ends-as g.S.Steps.sound _ _ _ _ _ _ _ _ c.steps.invariant.so_far (rw (c.steps.invariant.planned, c.steps.invariant.scn) at c.in-Over.ensures.turns)
