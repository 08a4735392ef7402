use Rattle.std.proofs.Common.{◌∙◌}
use Rattle.px_verify.proofs.Stepping as stepping
use Rattle.px_verify.proofs.run.run_report.Goals as goal

pub steps-init : goal.steps-init
steps-init g c = record {
  so_far = stepping.starts g.S.Steps.sound c.args.table c.args.index _ (g.S.Steps.known c.args.s.now) c.new-run.ensures.state;
  table = c.new-run.ensures.table;
  index = c.new-run.ensures.index;
}

pub steps-preserved-in-Stepped : goal.steps-preserved-in-Stepped
steps-preserved-in-Stepped g c = record {
  so_far = stepping.steps_on g.S.Steps.sound _ _ _ _ _ _ _ c.steps.invariant.so_far (rw (c.steps.invariant.table, c.steps.invariant.index) at c.in-Stepped.ensures.turns);
  table = c.step.ensures.table ∙ c.steps.invariant.table;
  index = c.step.ensures.index ∙ c.steps.invariant.index;
}

pub steps-preserved : goal.steps-preserved
steps-preserved g c = record {
  so_far = stepping.waits_on g.S.Steps.sound _ _ _ _ _ _ _ _ c.steps.invariant.so_far (rw (c.steps.invariant.table, c.steps.invariant.index) at c.in-Waiting.ensures.turns);
  table = c.step.ensures.table ∙ c.steps.invariant.table;
  index = c.step.ensures.index ∙ c.steps.invariant.index;
}

pub returns-in-Over : goal.returns-in-Over
returns-in-Over g c = stepping.ends_as g.S.Steps.sound _ _ _ _ _ _ _ _ c.steps.invariant.so_far (rw (c.steps.invariant.table, c.steps.invariant.index) at c.in-Over.ensures.turns)
