use Rattle.std.proofs.Common.{map, refl}
use Rattle.std.specs.String.{string_bytes}
use Rattle.px_arguments.specs.Arguments.{Load}
use Rattle.px_program.specs.declared.job.Job.TheVariants as jobs
use Rattle.px_program.proofs.Ran.{loads, run_of}
use Rattle.px_program.proofs.run.run_loading.Goals as goal

pub returns-clause-run : goal.returns-clause-run
returns-clause-run g c =
    let n = c.requires.named in
    run_of g.D.Disk g.C.Clock g.I.Source g.O.Sink c.args.disk c.args.clock c.args.input.now c.args.input.now c.args.out.now c.run_folder.new.out (map string_bytes c.args.words.now) (Load n.0 c.args.load) n.1 refl c.run_folder.result
    (jobs.Load c.args.load) (loads g.I.Source c.args.input.now (map string_bytes c.args.words.now) n.0 c.args.load n.1)
    c.requires.fresh.0 c.requires.fresh.1 c.run_folder.ensures.known c.run_folder.ensures.failed c.run_folder.ensures.run

pub run_folder-requires-clause-within : goal.run_folder-requires-clause-within
run_folder-requires-clause-within g c κs bounds =
    let n = c.requires.named in
    ((c.law_spelled.ensures.read (map string_bytes c.args.words.now) (Load n.0 c.args.load)).0 n.1).asks.3.few
