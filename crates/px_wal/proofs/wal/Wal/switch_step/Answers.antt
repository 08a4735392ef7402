use Rattle.std.proofs.Common.{◌≡◌, [], Option, Ok, inl, refl, sym, ap, subst, arith}
use Rattle.std.specs.Prelude.{IsSome}
use Rattle.px_gatelog.specs.declared.segment.Segment.{Segment}
use Rattle.px_gatelog.specs.GateLog.{newest_generation, room_in, steps_left}
use Rattle.px_gatelog.proofs.Older.{room_most}
use Rattle.px_wal.specs.Form.{wal_form}
use Rattle.px_wal.proofs.Appended.{touches_next}
use Rattle.px_wal.proofs.Switched.{full_alone, laid_more, laid_none, not_last, switch_at, switch_done, switch_more}
use Rattle.px_wal.proofs.wal.Wal.switch_step.Goals as goal

pub returns-in-Ok-More-clause-done : goal.returns-in-Ok-More-clause-done
returns-in-Ok-More-clause-done g c = λ region flushed batches has may.
    let more = c.in-Ok-More.ensures.more (ap (λ r. Ok r) c.in-Ok-More.field-0-is) in
    switch_more g.D.Disk region flushed c.args.self.now c.args.disk.now batches has may _ c.roll_step.new.disk refl c.in-Ok-More.ensures.done c.roll_step.ensures.same
    (laid_more (steps_left c.args.self.now.log) (steps_left c.roll_step.new.self) more (λ two. c.in-Ok-More.ensures.laid (wal_form flushed) has.log.segments has.log.settled two))
    (not_last c.args.self.now.log c.roll_step.new.self more) refl

pub returns-in-Ok-Rolled-clause-done : goal.returns-in-Ok-Rolled-clause-done
returns-in-Ok-Rolled-clause-done g c = λ region flushed batches has may.
    switch_done g.D.Disk region flushed c.args.self.now c.args.disk.now batches has may _ c.roll_step.new.disk refl c.in-Ok-Rolled.ensures.done c.roll_step.ensures.same
    (laid_none (steps_left c.roll_step.new.self) (c.in-Ok-Rolled.ensures.unlaid (ap (λ r. Ok r) c.in-Ok-Rolled.field-0-is))) (c.in-Ok-Rolled.ensures.rolled (ap (λ r. Ok r) c.in-Ok-Rolled.field-0-is)) refl

pub returns-in-Ok-More-clause-any_moment : goal.returns-in-Ok-More-clause-any_moment
returns-in-Ok-More-clause-any_moment g c = λ region flushed batches has may. switch_at g.D.Disk region flushed c.args.self.now c.args.disk.now batches has may c.roll_step.new.disk c.roll_step.ensures.any_moment

pub returns-in-Ok-Rolled-clause-any_moment : goal.returns-in-Ok-Rolled-clause-any_moment
returns-in-Ok-Rolled-clause-any_moment g c = λ region flushed batches has may. switch_at g.D.Disk region flushed c.args.self.now c.args.disk.now batches has may c.roll_step.new.disk c.roll_step.ensures.any_moment

pub returns-in-Err-clause-any_moment : goal.returns-in-Err-clause-any_moment
returns-in-Err-clause-any_moment g c = λ region flushed batches has may. switch_at g.D.Disk region flushed c.args.self.now c.args.disk.now batches has may c.roll_step.new.disk c.roll_step.ensures.any_moment

pub returns-in-Ok-More-clause-touches : goal.returns-in-Ok-More-clause-touches
returns-in-Ok-More-clause-touches g c = λ region flushed batches has. touches_next g.D.Disk region flushed c.args.self.now c.args.disk.now batches has c.roll_step.new.disk c.roll_step.ensures.touches

pub returns-in-Ok-Rolled-clause-touches : goal.returns-in-Ok-Rolled-clause-touches
returns-in-Ok-Rolled-clause-touches g c = λ region flushed batches has. touches_next g.D.Disk region flushed c.args.self.now c.args.disk.now batches has c.roll_step.new.disk c.roll_step.ensures.touches

pub returns-in-Err-clause-touches : goal.returns-in-Err-clause-touches
returns-in-Err-clause-touches g c = λ region flushed batches has. touches_next g.D.Disk region flushed c.args.self.now c.args.disk.now batches has c.roll_step.new.disk c.roll_step.ensures.touches

pub returns-in-Ok-More-clause-full : goal.returns-in-Ok-More-clause-full
returns-in-Ok-More-clause-full g c = (λ e. cc, λ last. (let e = c.in-Ok-More.ensures.full.1 (inl last) in cc))

pub returns-in-Ok-Rolled-clause-full : goal.returns-in-Ok-Rolled-clause-full
returns-in-Ok-Rolled-clause-full g c = (λ e. cc, λ last. (let e = c.in-Ok-Rolled.ensures.full.1 (inl last) in cc))

pub returns-in-Err-clause-full : goal.returns-in-Err-clause-full
returns-in-Err-clause-full g c = full_alone _ (newest_generation c.args.self.now.log ≡ 18446744073709551615) (steps_left c.args.self.now.log) c.in-Err.ensures.full

pub returns-in-Ok-More-clause-room : goal.returns-in-Ok-More-clause-room
returns-in-Ok-More-clause-room g c = λ region flushed batches has. (let e = ap room_in (c.in-Ok-More.ensures.kept (ap (λ r. Ok r) c.in-Ok-More.field-0-is)) in omega (arith, e))

pub returns-in-Ok-Rolled-clause-room : goal.returns-in-Ok-Rolled-clause-room
returns-in-Ok-Rolled-clause-room g c = λ region flushed batches has.
    let is = ap (λ r. Ok r) c.in-Ok-Rolled.field-0-is in
    let now = c.in-Ok-Rolled.ensures.room [] (has.log.laid (c.in-Ok-Rolled.ensures.rolled is)) is in
    let most = room_most g.D.Disk (wal_form flushed) c.args.self.now.log c.args.disk.now has.log.segments has.log.settled in
    omega (arith, now, most)

pub returns-in-Ok-More-clause-open : goal.returns-in-Ok-More-clause-open
returns-in-Ok-More-clause-open g c = λ was. subst (λ (n : Option Segment). IsSome n) (sym (c.in-Ok-More.ensures.kept (ap (λ r. Ok r) c.in-Ok-More.field-0-is))) was

pub returns-in-Ok-Rolled-clause-open : goal.returns-in-Ok-Rolled-clause-open
returns-in-Ok-Rolled-clause-open g c = λ was. c.in-Ok-Rolled.ensures.opened (ap (λ r. Ok r) c.in-Ok-Rolled.field-0-is)
