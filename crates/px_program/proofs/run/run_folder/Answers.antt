use Rattle.std.proofs.Common.{sym, ap, subst, ◌∙◌}
use Rattle.px_outside.specs.inner.Metered.{metered_disk}
use Rattle.px_program.specs.inner.Outcomes.{with_disk}
use Rattle.px_program.specs.inner.Running.{RanOn}
use Rattle.px_program.specs.inner.Watched.{watched_disk}
use Rattle.px_program.proofs.Ran.{ran_through}
use Rattle.px_program.proofs.run.run_folder.Goals as goal

pub returns-clause-run : goal.returns-clause-run
returns-clause-run g c =
    let d = g.D.Disk in
    let job = c.args.job in
    let back = c.map_disk-2.result.disk in
    let end = c.map_disk-2.ensures.disk ∙ ap watched_disk c.map_disk.ensures.disk in
    let rest = c.map_disk-2.ensures.rest ∙ ap (with_disk back) c.map_disk.ensures.rest in
    subst (λ o. RanOn d g.C.Clock g.O.Sink c.args.lookback job c.args.clock c.args.disk c.args.out.now c.run_on.new.out o) (sym rest)
    (ran_through d (λ m. watched_disk (metered_disk m)) g.C.Clock g.O.Sink c.args.lookback job c.args.clock c.new-counted.result c.args.out.now c.run_on.new.out c.run_on.result c.args.disk back
    (ap watched_disk c.new-counted.ensures.same ∙ c.new.ensures.same) end c.run_on.ensures)
