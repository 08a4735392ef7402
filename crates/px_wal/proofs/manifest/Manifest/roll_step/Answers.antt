use Rattle.std.proofs.Common.{◌∷◌, [], ap, refl, subst, Ok}
use Rattle.px_gatelog.specs.Format.{LogRecord}
use Rattle.px_gatelog.specs.GateLog.{IsLaid}
use Rattle.px_wal.specs.Snapshot.{manifest_form}
use Rattle.px_wal.proofs.Appended.{laid_next}
use Rattle.px_wal.proofs.Named.{roll_at, roll_done}
use Rattle.px_wal.proofs.manifest.Manifest.roll_step.Goals as goal

pub returns-in-Err-Full-clause-any_moment : goal.returns-in-Err-Full-clause-any_moment
returns-in-Err-Full-clause-any_moment g c = λ region has.
    roll_at g.D.Disk region c.args.self.now c.args.disk.now has c.roll_step.new.disk c.roll_step.ensures.any_moment

pub returns-in-Ok-More-clause-done : goal.returns-in-Ok-More-clause-done
returns-in-Ok-More-clause-done g c = λ region has.
    roll_done g.D.Disk region c.args.self.now c.args.disk.now has _ c.roll_step.new.disk refl c.roll_step.ensures.same
    (laid_next c.in-Ok-More.field-0 _ _ (λ e. c.in-Ok-More.ensures.more (ap Ok e)) (λ e. c.in-Ok-More.ensures.unlaid (ap Ok e))
    (λ two. subst (λ (r : LogRecord). IsLaid g.D.Disk c.roll_step.new.self c.roll_step.new.disk (r ∷ [])) c.fill_snapshot.ensures.filled (c.in-Ok-More.ensures.laid manifest_form has.log.segments has.log.settled two)))
    c.in-Ok-More.ensures.done

pub returns-in-Ok-More-clause-any_moment : goal.returns-in-Ok-More-clause-any_moment
returns-in-Ok-More-clause-any_moment g c = λ region has.
    roll_at g.D.Disk region c.args.self.now c.args.disk.now has c.roll_step.new.disk c.roll_step.ensures.any_moment

pub returns-in-Ok-Rolled-clause-done : goal.returns-in-Ok-Rolled-clause-done
returns-in-Ok-Rolled-clause-done g c = λ region has.
    roll_done g.D.Disk region c.args.self.now c.args.disk.now has _ c.roll_step.new.disk refl c.roll_step.ensures.same
    (laid_next c.in-Ok-Rolled.field-0 _ _ (λ e. c.in-Ok-Rolled.ensures.more (ap Ok e)) (λ e. c.in-Ok-Rolled.ensures.unlaid (ap Ok e))
    (λ two. subst (λ (r : LogRecord). IsLaid g.D.Disk c.roll_step.new.self c.roll_step.new.disk (r ∷ [])) c.fill_snapshot.ensures.filled (c.in-Ok-Rolled.ensures.laid manifest_form has.log.segments has.log.settled two)))
    c.in-Ok-Rolled.ensures.done

pub returns-in-Ok-Rolled-clause-any_moment : goal.returns-in-Ok-Rolled-clause-any_moment
returns-in-Ok-Rolled-clause-any_moment g c = λ region has.
    roll_at g.D.Disk region c.args.self.now c.args.disk.now has c.roll_step.new.disk c.roll_step.ensures.any_moment

pub returns-in-Err-WriteFault-clause-any_moment : goal.returns-in-Err-WriteFault-clause-any_moment
returns-in-Err-WriteFault-clause-any_moment g c = λ region has.
    roll_at g.D.Disk region c.args.self.now c.args.disk.now has c.roll_step.new.disk c.roll_step.ensures.any_moment
