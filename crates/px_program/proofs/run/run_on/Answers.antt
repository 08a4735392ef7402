use Rattle.std.proofs.Common.{refl, sym, ap, ◌∙◌, Err}
use Rattle.px_opening.specs.Opened.{folder_in}
use Rattle.px_program.specs.Status.{is_memory_status}
use Rattle.px_program.specs.inner.Running.{LeavesNothing, stopped_by}
use Rattle.px_program.proofs.Stops.{opened_now}
use Rattle.px_program.proofs.Ran.{caused_by, not_opened, opened_ran}
use Rattle.px_program.proofs.run.run_on.Goals as goal

pub returns-in-Err : goal.returns-in-Err
returns-in-Err g c =
    let caused = caused_by g.D.Disk c.args.disk c.open.new.disk c.in-Err.fault (λ is. c.open.ensures.read_failed (c.in-Err.is ∙ ap Err is)) (λ is. c.open.ensures.write_failed (c.in-Err.is ∙ ap Err is))
    (λ file place is. c.open.ensures.damaged file place (c.in-Err.is ∙ ap Err is)) in
    let status = c.unrun.ensures.status ∙ (c.status_unopened-status.ensures ∙ ap (stopped_by c.in-Err.fault) c.first_fault.ensures) in
    let nothing : LeavesNothing c.args.out.now c.args.out.now c.unrun.result = record { entries = c.unrun.ensures.entries; late = c.unrun.ensures.late; transcripts = c.unrun.ensures.transcripts; memory = c.unrun.ensures.memory ∙ ap is_memory_status (sym c.unrun.ensures.status); unwritten = refl } in
    not_opened g.D.Disk g.C.Clock g.O.Sink c.args.lookback c.args.job c.args.clock c.args.disk c.open.new.disk c.args.out.now c.args.out.now c.unrun.result (λ starts. c.law_starts.ensures.failed c.args.disk c.open.new.disk starts c.open.ensures.any_moment) c.in-Err.fault c.unrun.ensures.disk status caused nothing c.open.ensures.touches

pub returns-in-Ok : goal.returns-in-Ok
returns-in-Ok g c =
    let own = c.in-Ok.ensures in
    opened_ran g.D.Disk g.C.Clock g.O.Sink c.args.lookback c.args.job c.args.clock c.args.disk c.open.new.disk c.args.out.now c.run_opened.new.out c.run_opened.result (λ starts. c.law_starts.ensures.failed c.args.disk c.open.new.disk starts c.open.ensures.any_moment) (g.met.D.Disk g.world.𝓛 g.world.𝓜 g.world.𝓡 ((λ s x. x), (λ x. x), (λ x. x), λ x. x)).told c.in-Ok.opened own.stood own.sound
    own.opened_by c.open.ensures.touches
    (λ starts tells. c.law_starts.ensures.opened c.args.disk c.open.new.disk c.in-Ok.opened starts tells own.sound own.stands own.catalogue own.read c.open.ensures.any_moment)
    (λ reads tells. opened_now g.D.Disk c.args.disk c.in-Ok.opened (own.sound tells) c.open.new.disk (own.stands tells) (own.catalogue tells) (own.read tells) reads)
    c.run_opened.ensures.begun c.run_opened.ensures.past c.run_opened.ensures.ran
