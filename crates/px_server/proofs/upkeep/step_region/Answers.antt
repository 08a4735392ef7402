use Rattle.std.proofs.Common.{sym, ◌∙◌}
use Rattle.px_server.proofs.Forgot.{err_not, stepped_by, stepped_to_forget}
use Rattle.px_server.proofs.upkeep.step_region.Goals as goal

pub returns-clause-steps : goal.returns-clause-steps
returns-clause-steps g c = record {
  number = c.forget_step.ensures.number;
  leaves = c.forget_step.ensures.any_moment;
  touches = c.forget_step.ensures.touches;
  counts = c.forget_step.ensures.counts;
  promised = c.forget_step.ensures.promised;
}

pub returns-clause-ok : goal.returns-clause-ok
returns-clause-ok g c = stepped_by g.D.Disk c.args.region.now c.forget_step.new.self c.args.disk.now c.forget_step.new.disk c.args.horizon (returns-clause-steps g c) c.forget_step.result c.forget_step.ensures.read c.forget_step.ensures.horizon (λ is. (c.forget_step.ensures.forgot_read is, c.forget_step.ensures.forgot_at is)) c.forget_step.ensures.done
    (λ s held is. (c.forget_step.ensures.forgot s held is).0)

pub returns-clause-to_forget : goal.returns-clause-to_forget
returns-clause-to_forget g c = stepped_to_forget c.args.horizon c.args.region.now c.forget_step.new.self c.forget_step.result c.forget_step.ensures.read c.forget_step.ensures.horizon c.forget_step.ensures.forgot_at c.forget_step.ensures.wanted

pub returns-clause-refused : goal.returns-clause-refused
returns-clause-refused g c = λ is. record {
  read = c.forget_step.ensures.read (λ e. err_not _ (sym is ∙ e));
  horizon = c.forget_step.ensures.horizon (λ e. err_not _ (sym is ∙ e));
  holds = λ s held. c.forget_step.ensures.refused s held is;
}
