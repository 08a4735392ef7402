use Rattle.std.proofs.Common.{map, refl, sym}
use Rattle.std.specs.String.{string_bytes}
use Rattle.px_outside.proofs.Moments.{touches_none}
use Rattle.px_catalog.specs.Catalogue.{catalogue_files}
use Rattle.px_program.specs.declared.status.Status.TheVariants.{BadWords}
use Rattle.px_program.proofs.Ran.{not_run}
use Rattle.px_program.proofs.run.phoenix.Goals as goal

pub returns-in-None-clause-run : goal.returns-in-None-clause-run
returns-in-None-clause-run g c =
    not_run g.D.Disk g.C.Clock g.I.Source g.O.Sink c.args.disk c.args.clock c.args.input.now c.args.input.now c.args.out.now (map string_bytes c.args.words.now) c.untouched.result BadWords c.untouched.ensures.status c.untouched.ensures.disk
    (sym c.in-None.ensures, refl, refl)
    c.untouched.ensures.entries c.untouched.ensures.late c.untouched.ensures.transcripts c.untouched.ensures.memory (touches_none g.D.Disk.calls g.D.Disk.left g.D.Disk.seen (g.met.D.Disk g.world.𝓛 g.world.𝓜 g.world.𝓡 ((λ s x. x), (λ x. x), (λ x. x), λ x. x)).up_to_now c.args.disk catalogue_files) c.untouched.ensures.recovers
