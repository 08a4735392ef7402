use Rattle.std.proofs.Common.{ap, refl, Ok}
use Rattle.px_region.proofs.Holding.{holds_alike, stands_now}
use Rattle.px_region.proofs.Right.{may_name}
use Rattle.px_region.proofs.Steps.{allow_on, plain_stands, some_forgets, some_stands}
use Rattle.px_region.proofs.region.Region.kept_step.Goals as goal

pub files_step-requires-clause-above : goal.files_step-requires-clause-above
files_step-requires-clause-above g c = allow_on _ c.args.horizon c.args.self.now.stamps c.requires.under c.requires.above

pub files_step-requires-clause-right : goal.files_step-requires-clause-right
files_step-requires-clause-right g c = may_name _ c.args.horizon _ c.args.self.now.store.cells c.requires.under (c.may_name.ensures c.if-not-may_name.false)

-- ---- its file has other cells

pub returns-then-not-may_name-clause-refused : goal.returns-then-not-may_name-clause-refused
returns-then-not-may_name-clause-refused g c = λ s holds memory. c.give_up.ensures.done s c.args.disk.now holds

pub returns-then-not-may_name-clause-any_moment : goal.returns-then-not-may_name-clause-any_moment
returns-then-not-may_name-clause-any_moment g c = λ s holds. plain_stands g.D.Disk c.args.horizon _ _ _ s (stands_now g.D.Disk c.args.self.now c.args.disk.now s holds g.met.D.Disk.up_to_now)

-- ---- there are more steps

pub returns-else-is_idle-clause-done : goal.returns-else-is_idle-clause-done
returns-else-is_idle-clause-done g c = λ s holds other. c.in-Ok-More.ensures.done s holds (λ e. cc)

pub returns-else-is_idle-clause-any_moment : goal.returns-else-is_idle-clause-any_moment
returns-else-is_idle-clause-any_moment g c = λ s holds. some_stands g.D.Disk _ c.args.horizon _ _ _ s c.requires.under (c.files_step.ensures.any_moment s holds)

-- ---- it found no memory

pub returns-then-is_idle-clause-refused : goal.returns-then-is_idle-clause-refused
returns-then-is_idle-clause-refused g c = λ s holds memory. holds_alike g.D.Disk c.files_step.new.self c.files_step.new.disk s (c.in-Ok-More.ensures.done s holds (λ e. cc)) _ (record { number = refl; wal = refl; manifest = refl; flushing = refl; horizon = refl; store = refl; cells = refl; bytes = refl; stamps = refl })

pub returns-then-is_idle-clause-any_moment : goal.returns-then-is_idle-clause-any_moment
returns-then-is_idle-clause-any_moment g c = λ s holds. some_stands g.D.Disk _ c.args.horizon _ _ _ s c.requires.under (c.files_step.ensures.any_moment s holds)

pub returns-in-Err-clause-refused : goal.returns-in-Err-clause-refused
returns-in-Err-clause-refused g c = λ s holds memory. holds_alike g.D.Disk c.files_step.new.self c.files_step.new.disk s (c.in-Err.ensures.refused s holds memory) _ (record { number = refl; wal = refl; manifest = refl; flushing = refl; horizon = refl; store = refl; cells = refl; bytes = refl; stamps = refl })

pub returns-in-Err-clause-any_moment : goal.returns-in-Err-clause-any_moment
returns-in-Err-clause-any_moment g c = λ s holds. some_stands g.D.Disk _ c.args.horizon _ _ _ s c.requires.under (c.files_step.ensures.any_moment s holds)

-- ---- it ended

pub returns-in-Ok-Done-clause-done : goal.returns-in-Ok-Done-clause-done
returns-in-Ok-Done-clause-done g c = λ s holds other. c.in-Ok-Done.ensures.done s holds (λ e. cc)

pub returns-in-Ok-Done-clause-any_moment : goal.returns-in-Ok-Done-clause-any_moment
returns-in-Ok-Done-clause-any_moment g c = λ s holds. some_stands g.D.Disk _ c.args.horizon _ _ _ s c.requires.under (c.files_step.ensures.any_moment s holds)

pub returns-in-Ok-Forgot-clause-forgot : goal.returns-in-Ok-Forgot-clause-forgot
returns-in-Ok-Forgot-clause-forgot g c = λ s holds e.
    let w = c.in-Ok-Forgot.ensures.forgot s holds (ap (λ r. Ok r) c.in-Ok-Forgot.field-0-is) in
    let f = some_forgets _ c.args.horizon _ _ c.requires.under w.1 in
    (w.0, f.0, f.1)

pub returns-in-Ok-Forgot-clause-forgot_at : goal.returns-in-Ok-Forgot-clause-forgot_at
returns-in-Ok-Forgot-clause-forgot_at g c = λ e. c.in-Ok-Forgot.ensures.forgot_at c.args.horizon c.requires.under (ap (λ r. Ok r) c.in-Ok-Forgot.field-0-is)

pub returns-in-Ok-Forgot-clause-forgot_read : goal.returns-in-Ok-Forgot-clause-forgot_read
returns-in-Ok-Forgot-clause-forgot_read g c = λ e. c.in-Ok-Forgot.ensures.forgot_read c.args.horizon c.requires.under (ap (λ r. Ok r) c.in-Ok-Forgot.field-0-is)

pub returns-in-Ok-Forgot-clause-any_moment : goal.returns-in-Ok-Forgot-clause-any_moment
returns-in-Ok-Forgot-clause-any_moment g c = λ s holds. some_stands g.D.Disk _ c.args.horizon _ _ _ s c.requires.under (c.files_step.ensures.any_moment s holds)

pub returns-in-Ok-Forgot-clause-done : goal.returns-in-Ok-Forgot-clause-done
returns-in-Ok-Forgot-clause-done g c = λ s holds other. absurd (other refl)

pub returns-in-Ok-Forgot-clause-read : goal.returns-in-Ok-Forgot-clause-read
returns-in-Ok-Forgot-clause-read g c = λ other. absurd (other refl)

pub returns-in-Ok-Forgot-clause-horizon : goal.returns-in-Ok-Forgot-clause-horizon
returns-in-Ok-Forgot-clause-horizon g c = λ other. absurd (other refl)

pub returns-in-Ok-Forgot-clause-wanted : goal.returns-in-Ok-Forgot-clause-wanted
returns-in-Ok-Forgot-clause-wanted g c = λ other. absurd (other refl)
