use Rattle.px_verify.proofs.Stepping as stepping
use Rattle.px_verify.proofs.machine.with_versions.Goals as goal

pub returns-in-Some : goal.returns-in-Some
returns-in-Some g c = λ t k after f h.
    let kept = rw c.as_slice-included.ensures at c.in-Ok.ensures in
    stepping.versions-more g.S.Steps.sound k t c.args.index c.args.x after c.args.chunk c.keep_versions.new.versions f h kept c.in-Some.last c.in-Some.is

pub returns-in-None : goal.returns-in-None
returns-in-None g c = λ t k after f h.
    let kept = rw c.as_slice-included.ensures at c.in-Ok.ensures in
    stepping.goes-as g.S.Steps.sound k t c.args.index c.args.x.point _ _ _ c.ended.ensures
    (stepping.versions-end g.S.Steps.sound k t c.args.index c.args.x after c.args.chunk c.keep_versions.new.versions f h kept c.in-None.is)
