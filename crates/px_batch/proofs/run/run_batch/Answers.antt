use Rattle.std.proofs.Common.{◌∙◌}
use Rattle.px_batch.proofs.Turning as turning
use Rattle.px_batch.proofs.run.run_batch.Goals as goal

pub steps-init : goal.steps-init
steps-init g c = record {
  so_far = rw c.new-run.ensures.state (turning.starts g.S.Steps.sound c.args.table c.args.changes (g.S.Steps.known c.args.s.now) c.requires.fits);
  table = c.new-run.ensures.table;
  changes = c.new-run.ensures.changes;
}

pub steps-preserved-in-Stepped : goal.steps-preserved-in-Stepped
steps-preserved-in-Stepped g c = record {
  so_far = turning.steps_on _ _ _ _ _ _ _ _ c.steps.invariant.so_far (rw (c.steps.invariant.table, c.steps.invariant.changes) at c.in-Stepped.ensures.turns);
  table = c.step.ensures.table ∙ c.steps.invariant.table;
  changes = c.step.ensures.changes ∙ c.steps.invariant.changes;
}

pub steps-preserved : goal.steps-preserved
steps-preserved g c = record {
  so_far = turning.waits_on _ _ _ _ _ _ _ _ _ c.steps.invariant.so_far (rw (c.steps.invariant.table, c.steps.invariant.changes) at c.in-Waiting.ensures.turns);
  table = c.step.ensures.table ∙ c.steps.invariant.table;
  changes = c.step.ensures.changes ∙ c.steps.invariant.changes;
}

pub returns-in-Over : goal.returns-in-Over
returns-in-Over g c = turning.ends_as _ _ _ _ _ _ _ _ _ c.steps.invariant.so_far (rw (c.steps.invariant.table, c.steps.invariant.changes) at c.in-Over.ensures.turns)
