use Rattle.std.proofs.Common.{[], ◌∙◌}
use Rattle.px_scan.proofs.Courses as courses
use Rattle.px_scan.proofs.Turning as turning
use Rattle.px_scan.proofs.run.run_query.Goals as goal

pub steps-init : goal.steps-init
steps-init g c = record {
  so_far = turning.starts g.S.Steps.sound (g.Q.Asks.asked c.args.query) c.args.scn _ (g.S.Steps.known c.args.s.now) c.new-run.ensures.state c.requires.bound c.requires.scn;
  query = c.new-run.ensures.query;
  scn = c.new-run.ensures.scn;
  course = (_, c.new-run.ensures.state, ([], courses.set_out _ g.S.Steps (g.Q.Asks.asked c.args.query) c.args.scn c.args.s.now _));
}

pub steps-preserved-in-Stepped : goal.steps-preserved-in-Stepped
steps-preserved-in-Stepped g c = record {
  so_far = turning.steps_on g.S.Steps.sound _ _ _ _ _ _ _ c.steps.invariant.so_far (rw (c.steps.invariant.query, c.steps.invariant.scn) at c.in-Stepped.ensures.turns);
  query = c.step.ensures.query ∙ c.steps.invariant.query;
  scn = c.step.ensures.scn ∙ c.steps.invariant.scn;
  course = (let z = c.steps.invariant.course in (z.0, z.1, (_, courses.goes_on_course _ g.S.Steps _ _ _ _ _ _ _ _ _ _ z.2.1 c.steps.invariant.so_far.going (rw (c.steps.invariant.query, c.steps.invariant.scn) at c.in-Stepped.ensures.turns) c.step.ensures.one_call c.step.ensures.looks c.step.ensures.doubts)));
}

pub steps-preserved : goal.steps-preserved
steps-preserved g c = record {
  so_far = turning.waits_on g.S.Steps.sound _ _ _ _ _ _ _ _ c.steps.invariant.so_far (rw (c.steps.invariant.query, c.steps.invariant.scn) at c.in-Waiting.ensures.turns);
  query = c.step.ensures.query ∙ c.steps.invariant.query;
  scn = c.step.ensures.scn ∙ c.steps.invariant.scn;
  course = (let z = c.steps.invariant.course in (z.0, z.1, (_, courses.goes_on_course _ g.S.Steps _ _ _ _ _ _ _ _ _ _ z.2.1 c.steps.invariant.so_far.going (rw (c.steps.invariant.query, c.steps.invariant.scn) at c.in-Waiting.ensures.turns) c.step.ensures.one_call c.step.ensures.looks c.step.ensures.doubts)));
}

pub returns-in-Over-clause-ran : goal.returns-in-Over-clause-ran
returns-in-Over-clause-ran g c = turning.ends_as g.S.Steps.sound _ _ _ _ _ _ _ _ c.steps.invariant.so_far (rw (c.steps.invariant.query, c.steps.invariant.scn) at c.in-Over.ensures.turns)

pub returns-in-Over-clause-course : goal.returns-in-Over-clause-course
returns-in-Over-clause-course g c = (let z = c.steps.invariant.course in courses.ran_course _ g.S.Steps _ _ _ _ _ _ _ _ _ _ z.2.1 z.1 c.steps.invariant.so_far.going (rw (c.steps.invariant.query, c.steps.invariant.scn) at c.in-Over.ensures.turns) c.step.ensures.one_call c.step.ensures.looks c.step.ensures.doubts)
