use Rattle.std.proofs.Common.{Err, map, refl, ap, ◌∙◌}
use Rattle.std.specs.String.{string_bytes}
use Rattle.px_outside.proofs.Moments.{touches_none}
use Rattle.px_catalog.specs.Catalogue.{catalogue_files}
use Rattle.px_arguments.specs.Arguments.{Run}
use Rattle.px_program.specs.declared.job.Job.TheVariants.{Script}
use Rattle.px_program.specs.declared.status.Status.TheVariants.{Memory, SourceFault}
use Rattle.px_program.proofs.Ran.{not_run, run_of}
use Rattle.px_program.proofs.run.run_input.Goals as goal

pub returns-in-Ok-clause-run : goal.returns-in-Ok-clause-run
returns-in-Ok-clause-run g c =
    let n = c.requires.named in
    let read = c.in-Ok.ensures.rest in
    run_of g.D.Disk g.C.Clock g.I.Source g.O.Sink c.args.disk c.args.clock c.args.input.now c.read_all.new.source c.args.out.now c.run_folder.new.out (map string_bytes c.args.words.now) (Run n.0 c.args.lookback c.args.schedule) n.1 read c.run_folder.result
    (Script c.of-script.result c.args.schedule) (record { folder = n.0; lookback = c.args.lookback; words_are_run = n.1; script_is_the_input = λ tells. c.of-script.ensures ∙ c.in-Ok.ensures.bytes tells; input_is_read = read })
    c.requires.fresh.0 c.requires.fresh.1 c.run_folder.ensures.known c.run_folder.ensures.failed c.run_folder.ensures.run

pub returns-in-Err-ReadFault-clause-run : goal.returns-in-Err-ReadFault-clause-run
returns-in-Err-ReadFault-clause-run g c =
    let left = c.untouched in
    let n = c.requires.named in
    not_run g.D.Disk g.C.Clock g.I.Source g.O.Sink c.args.disk c.args.clock c.args.input.now c.read_all.new.source c.args.out.now (map string_bytes c.args.words.now) left.result SourceFault left.ensures.status left.ensures.disk
    ((n.0, c.args.lookback, c.args.schedule, n.1), refl, c.in-Err-ReadFault.ensures.failed (ap Err c.in-Err-ReadFault.field-0-is), c.in-Err-ReadFault.ensures.lost)
    left.ensures.entries left.ensures.late left.ensures.transcripts left.ensures.memory (touches_none g.D.Disk.calls g.D.Disk.left g.D.Disk.seen (g.met.D.Disk g.world.𝓛 g.world.𝓜 g.world.𝓡 ((λ s x. x), (λ x. x), (λ x. x), λ x. x)).up_to_now c.args.disk catalogue_files) left.ensures.recovers

pub returns-clause-run : goal.returns-clause-run
returns-clause-run g c =
    let left = c.untouched-in-Err-Memory in
    let n = c.requires.named in
    not_run g.D.Disk g.C.Clock g.I.Source g.O.Sink c.args.disk c.args.clock c.args.input.now c.read_all.new.source c.args.out.now (map string_bytes c.args.words.now) left.result Memory left.ensures.status left.ensures.disk
    (Run n.0 c.args.lookback c.args.schedule, n.1, tt, c.in-Err-Memory.ensures.lost)
    left.ensures.entries left.ensures.late left.ensures.transcripts left.ensures.memory (touches_none g.D.Disk.calls g.D.Disk.left g.D.Disk.seen (g.met.D.Disk g.world.𝓛 g.world.𝓜 g.world.𝓡 ((λ s x. x), (λ x. x), (λ x. x), λ x. x)).up_to_now c.args.disk catalogue_files) left.ensures.recovers
