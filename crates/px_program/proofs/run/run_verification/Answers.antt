use Rattle.std.proofs.Common.{map, refl, sym, ap, ◌∙◌}
use Rattle.std.specs.String.{string_bytes}
use Rattle.px_outside.proofs.Moments.{touches_none}
use Rattle.px_catalog.specs.Catalogue.{catalogue_files}
use Rattle.px_arguments.specs.Arguments.{Verify}
use Rattle.px_program.specs.declared.job.Job.TheVariants as jobs
use Rattle.px_program.specs.declared.status.Status.TheVariants.{Memory}
use Rattle.px_program.proofs.Ran.{not_run, run_of, verifies}
use Rattle.px_program.proofs.run.run_verification.Goals as goal

pub returns-in-Ok-clause-run : goal.returns-in-Ok-clause-run
returns-in-Ok-clause-run g c =
    let n = c.requires.named in
    run_of g.D.Disk g.C.Clock g.I.Source g.O.Sink c.args.disk c.args.clock c.args.input.now c.args.input.now c.args.out.now c.run_folder.new.out (map string_bytes c.args.words.now) (Verify n.0 c.args.table.now c.args.index.now c.args.kind) n.1 refl c.run_folder.result
    (jobs.Verify c.in-Ok.asked) (verifies g.I.Source c.args.input.now (map string_bytes c.args.words.now) n.0 c.args.table.now c.args.index.now c.args.kind c.in-Ok.asked n.1 c.in-Ok.ensures)
    c.requires.fresh.0 c.requires.fresh.1 c.run_folder.ensures.known c.run_folder.ensures.failed c.run_folder.ensures.run

pub returns-in-Err-clause-run : goal.returns-in-Err-clause-run
returns-in-Err-clause-run g c =
    let n = c.requires.named in
    not_run g.D.Disk g.C.Clock g.I.Source g.O.Sink c.args.disk c.args.clock c.args.input.now c.args.input.now c.args.out.now (map string_bytes c.args.words.now) c.untouched.result Memory c.untouched.ensures.status c.untouched.ensures.disk
    (Verify n.0 c.args.table.now c.args.index.now c.args.kind, n.1, tt, refl)
    c.untouched.ensures.entries c.untouched.ensures.late c.untouched.ensures.transcripts c.untouched.ensures.memory (touches_none g.D.Disk.calls g.D.Disk.left g.D.Disk.seen (g.met.D.Disk g.world.𝓛 g.world.𝓜 g.world.𝓡 ((λ s x. x), (λ x. x), (λ x. x), λ x. x)).up_to_now c.args.disk catalogue_files) c.untouched.ensures.recovers
