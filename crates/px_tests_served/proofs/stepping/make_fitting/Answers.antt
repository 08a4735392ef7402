use Rattle.px_tests_served.proofs.stepping.make_fitting.Goals as goal

pub steps-init : goal.steps-init
steps-init g c = record {
  fits = rw (c.new-run.ensures.table, c.new-run.ensures.changes, c.new-run.ensures.state) c.requires.fits;
  going = rw c.new-run.ensures.state tt;
}

pub steps-preserved-in-Stepped : goal.steps-preserved-in-Stepped
steps-preserved-in-Stepped g c = record {
  fits = rw (c.step.ensures.table, c.step.ensures.changes) (c.in-Stepped.ensures.turns.fits);
  going = c.in-Stepped.ensures.turns.told.0;
}

pub steps-preserved : goal.steps-preserved
steps-preserved g c = record {
  fits = rw (c.step.ensures.table, c.step.ensures.changes) (c.in-Waiting.ensures.turns.fits);
  going = c.in-Waiting.ensures.turns.told.0;
}
