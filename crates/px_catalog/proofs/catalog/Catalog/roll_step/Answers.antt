use Rattle.std.proofs.Common.{◌∷◌, [], ap, refl, subst, Ok}
use Rattle.px_gatelog.specs.Format.{LogRecord}
use Rattle.px_gatelog.specs.Framed.{record_of}
use Rattle.px_gatelog.specs.GateLog.{IsLaid}
use Rattle.px_gatelog.specs.declared.roll.Rolled.{Rolled}
use Rattle.px_gatelog.specs.declared.roll.Rolled.TheVariants.{Rolled as AllRolled}
use Rattle.px_catalog.specs.Catalogue.{standing_of}
use Rattle.px_catalog.specs.Reading.{catalogue_form}
use Rattle.px_catalog.proofs.Holding.{laid_next, leaves_now, roll_at, roll_done, stays_short}
use Rattle.px_catalog.proofs.Rooms.{rolled_room, step_is}
use Rattle.px_catalog.proofs.Values.{merely_fits}
use Rattle.px_catalog.proofs.catalog.Catalog.roll_step.Goals as goal

pub snapshot_frame-requires : goal.snapshot_frame-requires
snapshot_frame-requires g c = record { fits = merely_fits (standing_of c.args.self.now) c.args.self.now.right }

pub returns-in_err-frame-clause-any_moment : goal.returns-in_err-frame-clause-any_moment
returns-in_err-frame-clause-any_moment g c = λ has. leaves_now g.D.Disk c.args.self.now c.args.disk.now has g.met.D.Disk.up_to_now

pub returns-in_err-roll_step-clause-any_moment : goal.returns-in_err-roll_step-clause-any_moment
returns-in_err-roll_step-clause-any_moment g c = λ has.
    roll_at g.D.Disk c.args.self.now c.args.disk.now has c.in_ok-frame.ensures.short c.roll_step.new.disk c.roll_step.ensures.any_moment
    (stays_short g.D.Disk c.args.self.now c.args.disk.now has c.in_ok-frame.ensures.short c.roll_step.new.disk (record_of c.in_ok-frame.frame) c.in_ok-frame.ensures.framed c.roll_step.ensures.lengths c.roll_step.ensures.touches)

pub returns-clause-done : goal.returns-clause-done
returns-clause-done g c = λ has.
    roll_done g.D.Disk c.args.self.now c.args.disk.now has c.in_ok-frame.ensures.short _ c.roll_step.new.disk refl c.roll_step.ensures.same
    (laid_next c.in_ok-roll_step.field-0 _ _ (λ e. c.in_ok-roll_step.ensures.more (ap Ok e)) (λ e. c.in_ok-roll_step.ensures.unlaid (ap Ok e))
    (λ two. subst (λ (r : LogRecord). IsLaid g.D.Disk c.roll_step.new.self c.roll_step.new.disk (r ∷ [])) c.in_ok-frame.ensures.framed (c.in_ok-roll_step.ensures.laid catalogue_form has.log.segments has.log.settled two)))
    c.in_ok-roll_step.ensures.done c.roll_step.ensures.counts.later
    (stays_short g.D.Disk c.args.self.now c.args.disk.now has c.in_ok-frame.ensures.short c.roll_step.new.disk (record_of c.in_ok-frame.frame) c.in_ok-frame.ensures.framed c.roll_step.ensures.lengths c.roll_step.ensures.touches)

pub returns-clause-any_moment : goal.returns-clause-any_moment
returns-clause-any_moment g c = λ has.
    roll_at g.D.Disk c.args.self.now c.args.disk.now has c.in_ok-frame.ensures.short c.roll_step.new.disk c.roll_step.ensures.any_moment
    (stays_short g.D.Disk c.args.self.now c.args.disk.now has c.in_ok-frame.ensures.short c.roll_step.new.disk (record_of c.in_ok-frame.frame) c.in_ok-frame.ensures.framed c.roll_step.ensures.lengths c.roll_step.ensures.touches)

pub returns-clause-room : goal.returns-clause-room
returns-clause-room g c = λ has rolled.
    let last = ap (λ (x : Rolled). Ok x) (step_is c.in_ok-roll_step.field-0 AllRolled (Ok c.in_ok-roll_step.field-0) refl rolled) in
    rolled_room g.D.Disk c.args.self.now c.args.disk.now has c.in_ok-frame.ensures.short c.roll_step.new.self c.roll_step.new.disk (c.in_ok-roll_step.ensures.rolled last) c.in_ok-roll_step.ensures.done (c.in_ok-roll_step.ensures.opened last)
