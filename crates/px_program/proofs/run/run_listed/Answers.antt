use Rattle.std.proofs.Common.{arith, map, refl}
use Rattle.std.specs.String.{string_bytes}
use Rattle.px_outside.proofs.Moments.{touches_none}
use Rattle.px_catalog.specs.Catalogue.{catalogue_files}
use Rattle.px_arguments.specs.Arguments.{Run, listed_in}
use Rattle.px_program.specs.declared.status.Status.TheVariants.{Memory}
use Rattle.px_program.proofs.Ran.{not_run}
use Rattle.px_program.proofs.run.run_listed.Goals as goal

pub returns-in-Err-clause-run : goal.returns-in-Err-clause-run
returns-in-Err-clause-run g c =
    let n = c.requires.named in
    not_run g.D.Disk g.C.Clock g.I.Source g.O.Sink c.args.disk c.args.clock c.args.input.now c.args.input.now c.args.out.now (map string_bytes c.args.words.now) c.untouched.result Memory c.untouched.ensures.status c.untouched.ensures.disk
    (Run n.0 c.args.lookback (listed_in c.args.list), n.1, tt, λ tells. (0, omega arith, refl))
    c.untouched.ensures.entries c.untouched.ensures.late c.untouched.ensures.transcripts c.untouched.ensures.memory (touches_none g.D.Disk.calls g.D.Disk.left g.D.Disk.seen (g.met.D.Disk g.world.𝓛 g.world.𝓜 g.world.𝓡 ((λ s x. x), (λ x. x), (λ x. x), λ x. x)).up_to_now c.args.disk catalogue_files) c.untouched.ensures.recovers
