use Rattle.std.proofs.Common.{refl}
use Rattle.px_calls.specs.declared.query.By.TheVariants as by
use Rattle.px_scan.proofs.Quieting.{grown-quiet, quiet-sees}
use Rattle.px_verify.specs.declared.machine.ReportState.TheVariants as state
use Rattle.px_verify.proofs.Later.{fits-grown, look-ends}
use Rattle.px_verify.proofs.Stepping as stepping
use Rattle.px_verify.proofs.machine.look_at_rows.Goals as goal

pub fault_of-requires : goal.fault_of-requires
fault_of-requires g c = (look-ends g.S.Steps.sound c.args.x.point c.args.table c.args.index _ _ c.in-Err.f c.in-Err.ensures.refused).ends

pub returns-in-Ok-clause-turns : goal.returns-in-Ok-clause-turns
returns-in-Ok-clause-turns g c =
    let did = rw c.whole_path-path.ensures at c.in-Ok.ensures.ok in
    let quiet = quiet-sees _ _ did.finds.sees in
    stepping.steps g.S.Steps.sound _ _ c.args.table c.args.index c.args.x.point _ _ quiet refl (λ n le. le)
    (c.with_rows.ensures c.args.table _ c.args.after (fits-grown g.S.Steps.sound c.args.table c.args.index (state.Rows c.args.x c.args.after) _ _ (grown-quiet _ _ quiet) c.requires)
    (stepping.look-in g.S.Steps.sound _ _ c.args.x.point by.Table c.args.after c.in-Ok.chunk c.requires.0.open_point did))

pub returns-clause-turns : goal.returns-clause-turns
returns-clause-turns g c =
    let e = look-ends g.S.Steps.sound c.args.x.point c.args.table c.args.index _ _ c.in-Err.f c.in-Err.ensures.refused in
    stepping.fails g.S.Steps.sound _ _ c.args.table c.args.index c.args.x.point _ _ _ c.failed.ensures c.requires.0.open_point c.requires.0.has.table refl (λ n le. le) e.quiet
    (rw c.fault_of.ensures e.told) (rw c.fault_of.ensures (e.made c.args.x.point.found.at c.requires.0.open_point.point.within)) tt
