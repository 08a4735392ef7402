use Rattle.std.proofs.Common.{ap, Ok}
use Rattle.px_region.proofs.Right.{none_named}
use Rattle.px_region.proofs.Steps.{none_on, none_stands}
use Rattle.px_region.proofs.region.Region.plain_step.Goals as goal

pub files_step-requires-clause-above : goal.files_step-requires-clause-above
files_step-requires-clause-above g c = none_on _ c.args.self.now.stamps c.requires

pub files_step-requires-clause-right : goal.files_step-requires-clause-right
files_step-requires-clause-right g c = none_named _ _ c.args.self.now.store.cells c.requires

pub returns-in-Ok-More-clause-done : goal.returns-in-Ok-More-clause-done
returns-in-Ok-More-clause-done g c = λ s holds. c.in-Ok-More.ensures.done s holds (λ e. cc)

pub returns-in-Ok-More-clause-any_moment : goal.returns-in-Ok-More-clause-any_moment
returns-in-Ok-More-clause-any_moment g c = λ s holds. none_stands g.D.Disk _ _ _ _ s c.requires (c.files_step.ensures.any_moment s holds)

pub returns-in-Ok-Done-clause-done : goal.returns-in-Ok-Done-clause-done
returns-in-Ok-Done-clause-done g c = λ s holds. c.in-Ok-Done.ensures.done s holds (λ e. cc)

pub returns-in-Ok-Done-clause-any_moment : goal.returns-in-Ok-Done-clause-any_moment
returns-in-Ok-Done-clause-any_moment g c = λ s holds. none_stands g.D.Disk _ _ _ _ s c.requires (c.files_step.ensures.any_moment s holds)

pub returns-in-Err-clause-any_moment : goal.returns-in-Err-clause-any_moment
returns-in-Err-clause-any_moment g c = λ s holds. none_stands g.D.Disk _ _ _ _ s c.requires (c.files_step.ensures.any_moment s holds)

-- ---- nothing is forgotten

pub returns-in-Ok-Forgot-clause-done : goal.returns-in-Ok-Forgot-clause-done
returns-in-Ok-Forgot-clause-done g c = λ s holds. absurd (c.in-Ok-Forgot.ensures.only (ap (λ r. Ok r) c.in-Ok-Forgot.field-0-is) c.requires)

pub returns-in-Ok-Forgot-clause-any_moment : goal.returns-in-Ok-Forgot-clause-any_moment
returns-in-Ok-Forgot-clause-any_moment g c = λ s holds. none_stands g.D.Disk _ _ _ _ s c.requires (c.files_step.ensures.any_moment s holds)

pub returns-in-Ok-Forgot-clause-read : goal.returns-in-Ok-Forgot-clause-read
returns-in-Ok-Forgot-clause-read g c = absurd (c.in-Ok-Forgot.ensures.only (ap (λ r. Ok r) c.in-Ok-Forgot.field-0-is) c.requires)

pub returns-in-Ok-Forgot-clause-horizon : goal.returns-in-Ok-Forgot-clause-horizon
returns-in-Ok-Forgot-clause-horizon g c = absurd (c.in-Ok-Forgot.ensures.only (ap (λ r. Ok r) c.in-Ok-Forgot.field-0-is) c.requires)

pub returns-in-Ok-Forgot-clause-wanted : goal.returns-in-Ok-Forgot-clause-wanted
returns-in-Ok-Forgot-clause-wanted g c = absurd (c.in-Ok-Forgot.ensures.only (ap (λ r. Ok r) c.in-Ok-Forgot.field-0-is) c.requires)
