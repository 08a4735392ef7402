use Rattle.std.proofs.Common.{refl, ap, Err, Ok}
use Rattle.px_wal.specs.Form.{wal_form}
use Rattle.px_wal.proofs.Appended.{laid_next, never_full, not_open, roll_at, roll_done, touches_next, written_or}
use Rattle.px_wal.proofs.wal.Wal.roll_step.Goals as goal

pub returns-in-Err-clause-any_moment : goal.returns-in-Err-clause-any_moment
returns-in-Err-clause-any_moment g c = λ region flushed batches has.
    roll_at g.D.Disk region flushed c.args.self.now c.args.disk.now batches has (not_open c.args.self.now c.requires.closed) c.roll_step.new.disk c.roll_step.ensures.any_moment

pub returns-in-Err-clause-failed : goal.returns-in-Err-clause-failed
returns-in-Err-clause-failed g c = λ is.
    written_or c.in-Err._fault (λ e. never_full c.args.self.now.log (not_open c.args.self.now c.requires.closed) (c.in-Err.ensures.full.0 (ap Err e))) (λ e. c.in-Err.ensures.failed (ap Err e))

pub returns-in-Err-clause-touches : goal.returns-in-Err-clause-touches
returns-in-Err-clause-touches g c = λ region flushed batches has. touches_next g.D.Disk region flushed c.args.self.now c.args.disk.now batches has c.roll_step.new.disk c.roll_step.ensures.touches

pub returns-in-Ok-clause-done : goal.returns-in-Ok-clause-done
returns-in-Ok-clause-done g c = λ region flushed batches has.
    roll_done g.D.Disk region flushed c.args.self.now c.args.disk.now batches has (not_open c.args.self.now c.requires.closed) _ c.roll_step.new.disk refl refl c.roll_step.ensures.same
    (laid_next c.in-Ok.rolled _ _ (λ e. c.in-Ok.ensures.more (ap Ok e)) (λ e. c.in-Ok.ensures.unlaid (ap Ok e)) (λ two. c.in-Ok.ensures.laid (wal_form flushed) has.log.segments has.log.settled two))
    c.in-Ok.ensures.done

pub returns-in-Ok-clause-any_moment : goal.returns-in-Ok-clause-any_moment
returns-in-Ok-clause-any_moment g c = λ region flushed batches has.
    roll_at g.D.Disk region flushed c.args.self.now c.args.disk.now batches has (not_open c.args.self.now c.requires.closed) c.roll_step.new.disk c.roll_step.ensures.any_moment

pub returns-in-Ok-clause-touches : goal.returns-in-Ok-clause-touches
returns-in-Ok-clause-touches g c = λ region flushed batches has. touches_next g.D.Disk region flushed c.args.self.now c.args.disk.now batches has c.roll_step.new.disk c.roll_step.ensures.touches
